use Rattle.segment_c.proofs.maps.number_put.Goals as goal
use Rattle.std.proofs.{Common.ap, Common.rules, Common.Some, Common.subst, Common.sym, Common.w64, Common.◌∙◌}
use Rattle.std.proofs.lemmas.Int.{to_z-of_z}
use Rattle.seg_types.specs.{Commands.Command, Commands.Integer, Commands.Put, Names.ByHandle}
use Rattle.segment_manager.specs.{Answers.Boolean, State.TakesStep, State.truth_answer}
use Rattle.segment_c.specs.{Codes.answer_for, Passed.or_else}
use Rattle.segment_c.proofs.slot.GoingOn.{changes, number-is, number-right, stepped}

pub returns-in-Some-clause-call : goal.returns-in-Some-clause-call
returns-in-Some-clause-call c =
    stepped {old = c.args.h.now} {new = c.truth.new.h}
    (Put (ByHandle c.args.handle) (Integer c.args.at) (Integer c.args.value))
    (c.in-Ok.ensures.transfer.0 ∙ ap Some (sym c.deref_mut.ensures.value)) c.truth.ensures
    c.take.ensures.marks
    (subst (λ (it : Command).
    TakesStep c.deref_mut.result.now c.put_at-answer.new.segment it (truth_answer c.put_at-answer.result))
    (λ i. Put (ByHandle c.args.handle) (Integer (to_z-of_z w64 c.args.at c.ranges.at i))
    (Integer (to_z-of_z w64 c.args.value c.ranges.value i))) c.put_at-answer.ensures.step) (search rules)

pub returns-clause-call : goal.returns-clause-call
returns-clause-call c =
    let key = c.of_handle-key.ensures in
    let at = c.of-at.ensures in
    let value = c.of-value.ensures in
    changes {old = c.args.h.now} {lent = c.put_taken_back.new.handle} {new = c.put_any.new.h}
    (λ i. or_else (key.0 i) (or_else (number-right c.of-at.result at i) (number-right c.of-value.result value i)))
    (c.put_taken_back.ensures.effect ∙ sym c.in-Ok.ensures.transfer.0)
    (c.put_taken_back.ensures.marks_are ∙ c.take.ensures.marks)
    (λ s t r. subst (λ (it : Command). TakesStep s t it (answer_for c.put_any.result (Boolean c.put_any.new.is_new)))
    (λ i. Put (key.1 i) ((number-is c.of-at.result at ∙ ap Integer (to_z-of_z w64 c.args.at c.ranges.at)) i)
    ((number-is c.of-value.result value ∙ ap Integer (to_z-of_z w64 c.args.value c.ranges.value)) i)) r)
    c.put_any.ensures.call
