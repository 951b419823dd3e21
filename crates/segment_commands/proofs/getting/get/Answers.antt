-- The value that was found was said, or there is none.
use Rattle.std.proofs.Common.{Err, inr, refl, subst}
use Rattle.segment_commands.specs.Commands.{written_as}
use Rattle.segment_commands.specs.Getting.{TellsValue}
use Rattle.segment_commands.specs.declared.command_faults.CommandFault.TheVariants.{NoValue}
use Rattle.segment_commands.proofs.changing.Outcome.{told, write_fault}
use Rattle.segment_commands.proofs.getting.get.Goals as goal

pub returns-in-Some : goal.returns-in-Some
returns-in-Some g c = rw c.written.ensures (inr (record {
  segment = c.in_ok-segment.segment;
  opens = c.in_ok-segment.ensures;
  tells = λ d stands.
      subst (λ v. TellsValue g.O.Sink.history g.O.Output.flushes c.args.out.now c.tell_raw.new.out v
      (written_as c.tell_raw.result)) (c.in-Some.ensures.answers d stands)
      (told _ _ c.tell_raw.result c.tell_raw.ensures, write_fault c.tell_raw.result);
}))

pub returns : goal.returns
returns g c = inr (record {
  segment = c.in_ok-segment.segment;
  opens = c.in_ok-segment.ensures;
  tells = λ d stands.
      subst (λ v. TellsValue g.O.Sink.history g.O.Output.flushes c.args.out.now c.args.out.now v (Err NoValue))
      (c.in-None.ensures.answers d stands) (refl, refl);
})
