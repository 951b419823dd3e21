-- The dump went out, and then the losses; or it did not.
use Rattle.std.proofs.Common.{[], Err, Ok, ap, inr, refl, sym, ◌∙◌}
use Rattle.std.proofs.lemmas.Result.{err_from_is_err_and}
use Rattle.segment_commands.specs.Salvaging.{losses_text, status_of}
use Rattle.segment_commands.proofs.salvaging.Ends.{written_text}
use Rattle.segment_commands.proofs.salvaging.salvage_parts.Goals as goal

pub returns : goal.returns
returns g c =
    let losses = c.deref.result.now in
    inr (inr (record {
      refused = c.requires.image;
      segment = c.in_ok-segment.segment;
      salvaged = c.in_ok-segment.ensures;
      wrote = Ok tt;
      tells = c.in_ok-tell_report.ensures;
      losses = losses;
      told = written_text (g.E.Sink.history c.args.err.now) (g.E.Sink.history c.put_all_losses.new.err)
          c.put_all_losses.result (losses_text c.args.image.now losses) c.put_all_losses.ensures;
      answer = ap Ok (c.status_of.ensures ∙ ap status_of (c.deref-2.ensures.value ∙ sym c.deref.ensures.value));
    }))

pub returns-in_err-tell_report : goal.returns-in_err-tell_report
returns-in_err-tell_report g c =
    let from = c.from_residual-in_err-tell_report in let p = err_from_is_err_and from.result from.ensures.1 in
    inr (inr (record {
      refused = c.requires.image;
      segment = c.in_ok-segment.segment;
      salvaged = c.in_ok-segment.ensures;
      wrote = Err p.0;
      tells = c.in_err-tell_report.ensures;
      losses = [];
      told = refl;
      answer = p.1 ∙ ap Err p.2;
    }))
