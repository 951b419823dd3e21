-- What was seen is that of all bytes that were taken.
use Rattle.std.proofs.Common.{ap, false, fold, sym, take, ◌∙◌}
use Rattle.std.proofs.lemmas.List.Sums.{fold-append}
use Rattle.segment_commands.specs.Refusals.{after_byte, seen_in}
use Rattle.segment_commands.proofs.refusal_watch.RefusalWatch.pass.Goals as goal

pub invariant_of-self : goal.invariant_of-self
invariant_of-self g c =
    let was = c.args.self.now in
    let old = (g.O.Sink.history was.inner).bytes in
    let more = take c.in-Ok.count c.args.bytes.now in
    record {
      text = ap seen_in c.in-Ok.ensures.bytes
          ∙ (fold-append after_byte (record { spot = 0; refusal = false }) old more
          ∙ (ap (λ s. fold after_byte s more) was.text ∙ sym c.after_bytes-self.ensures));
    }
