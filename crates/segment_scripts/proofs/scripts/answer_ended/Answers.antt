use Rattle.std.proofs.Common.{sym, subst, ◌∙◌, ℕ, List}
use Rattle.raw_region.specs.Device.{Writes}
use Rattle.segment_scripts.specs.Refusing.{Tells}
use Rattle.segment_scripts.proofs.runs.AnswersSoFar.{whole_line}
use Rattle.segment_scripts.proofs.scripts.answer_ended.Goals as goal

pub returns-then-is_empty-clause-step : goal.returns-then-is_empty-clause-step
returns-then-is_empty-clause-step g c = λ state s.
    subst (λ (r : List ℕ × g.M.Machine.RunState). g.M.Machine.stands c.answer_next.new.machine r.1)
    (whole_line g.M.Machine.respond g.met.M.Machine.long_lines state c.args.line.now c.args.end.now
    (sym c.is_empty.ensures ∙ c.if-is_empty.true)) (c.answer_next.ensures.step state s)

pub returns-then-is_empty-clause-output : goal.returns-then-is_empty-clause-output
returns-then-is_empty-clause-output g c = record {
  writes = λ state s.
      subst (λ (r : List ℕ × g.M.Machine.RunState).
      Writes (g.W.Sink.history c.args.out.now) (g.W.Sink.history c.answer_next.new.out) c.answer_next.result r.0)
      (whole_line g.M.Machine.respond g.met.M.Machine.long_lines state c.args.line.now c.args.end.now
      (sym c.is_empty.ensures ∙ c.if-is_empty.true)) (c.answer_next.ensures.output.writes state s);
  counted = c.answer_next.ensures.output.counted;
}

pub returns-then-is_empty-clause-report : goal.returns-then-is_empty-clause-report
returns-then-is_empty-clause-report g c = λ state s.
    subst (Tells c.answer_next.result)
    (whole_line g.M.Machine.refuses g.met.M.Machine.long_refusals state c.args.line.now c.args.end.now
    (sym c.is_empty.ensures ∙ c.if-is_empty.true)) (c.answer_next.ensures.report state s)
