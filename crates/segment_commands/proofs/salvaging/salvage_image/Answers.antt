-- The dump of an image that is whole.
use Rattle.std.proofs.Common.{◌≡◌, Err, Ok, Some, ap, inl, inr, refl, rules, subst, ◌∙◌}
use Rattle.std.proofs.lemmas.Result.{err_from_is_err_and}
use Rattle.segment_commands.specs.Salvaging.{FindsWhole}
use Rattle.segment_commands.proofs.salvaging.salvage_image.Goals as goal

pub returns-in_ok-tell_report-in-Some : goal.returns-in_ok-tell_report-in-Some
returns-in_ok-tell_report-in-Some g c =
    let found : c.in_ok-segment.field-0 ≡ Some c.in-Some.segment = search rules in
    inr (inl (record {
      segment = c.in-Some.segment;
      whole = subst (FindsWhole c.args.image.now) found c.in_ok-segment.ensures;
      wrote = Ok tt;
      tells = c.in_ok-tell_report-in-Some.ensures;
      mute = refl;
      answer = refl;
    }))

pub returns-in_err-tell_report-in-Some : goal.returns-in_err-tell_report-in-Some
returns-in_err-tell_report-in-Some g c =
    let from = c.from_residual-in_err-tell_report-in-Some in
    let p = err_from_is_err_and from.result from.ensures.1 in
    let found : c.in_ok-segment.field-0 ≡ Some c.in-Some.segment = search rules in
    inr (inl (record {
      segment = c.in-Some.segment;
      whole = subst (FindsWhole c.args.image.now) found c.in_ok-segment.ensures;
      wrote = Err p.0;
      tells = c.in_err-tell_report-in-Some.ensures;
      mute = refl;
      answer = p.1 ∙ ap Err p.2;
    }))
