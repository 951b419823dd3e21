use Rattle.std.proofs.Common.{subst, sym}
use Rattle.std.proofs.lemmas.Bool.{false≢true}
use Rattle.segment_scripts.specs.declared.answered.Answered.TheVariants.{Done, Refused}
use Rattle.segment_scripts.specs.Refusing.{Tells}
use Rattle.segment_scripts.proofs.linting.Outcomes.{finds, quiet, quiet_leads, quiet_writes, told_missed}
use Rattle.segment_scripts.proofs.segments.Refusals.{tells-once, writes-once}
use Rattle.segment_scripts.proofs.linting.LintMachine.answer.Goals as goal

pub returns-in-Some-clause-output : goal.returns-in-Some-clause-output
returns-in-Some-clause-output g c =
    let was = c.args.self.now in
    finds was.line was.has_found was.rows.now c.saturating_add-self.result c.args.line.now
    c.saturating_add-self.ensures c.in-Some.error c.in-Some.ensures
    (g.W.Sink.history c.args.out.now) (g.W.Sink.history c.put_finding-told.new.out) c.once.result
    c.without_return.result.now c.without_return.ensures (writes-once Refused c.once.ensures c.put_finding-told.ensures)

pub returns-in-Some-clause-report : goal.returns-in-Some-clause-report
returns-in-Some-clause-report g c =
    λ at s. subst (Tells c.once.result) (told_missed c.in-Some.error c.args.line.now c.in-Some.ensures)
    (tells-once Refused c.put_finding-told.result c.once.ensures)

pub returns-in-None : goal.returns-in-None
returns-in-None g c =
    let was = c.args.self.now in
    let same = quiet c.args.line.now c.in-None.ensures in
    record {
      step = quiet_leads was.line was.has_found was.rows.now c.saturating_add-self.result c.args.line.now
          c.saturating_add-self.ensures same;
      output = quiet_writes was.line was.has_found was.rows.now c.saturating_add-self.result c.args.line.now
          c.saturating_add-self.ensures same Done (g.W.Sink.history c.args.out.now);
      report = λ at s. sym c.in-None.ensures;
      noop = λ at s e. absurd (false≢true e);
    }

pub returns-in-Some-clause-noop : goal.returns-in-Some-clause-noop
returns-in-Some-clause-noop g c = λ at s e. absurd (false≢true e)
