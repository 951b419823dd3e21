use Rattle.segment_c.proofs.elements.zx_push_i64.Goals as goal
use Rattle.std.proofs.{Common.ap, Common.Some, Common.subst, Common.sym, Common.w64, Common.◌∙◌, lemmas.Int.to_z-of_z}
use Rattle.seg_types.specs.Commands.{Command, Integer, Push}
use Rattle.segment_manager.specs.{Answers.Done, State.TakesStep}
use Rattle.segment_c.specs.{Codes.answer_for, Passed.or_else}
use Rattle.segment_c.proofs.slot.GoingOn.{changes, number-is, number-right}

pub returns : goal.returns
returns c =
    let key = c.of_handle.ensures in
    let number = number-is c.of-value.result c.of-value.ensures
    ∙ ap Integer (to_z-of_z w64 c.args.number c.ranges.number) in
    record {
      call = changes {old = c.args.h.now} {lent = c.put_taken_back-2.new.handle} {new = c.push_any.new.h}
          (λ i. or_else (key.0 i) (number-right c.of-value.result c.of-value.ensures i))
          (c.put_taken_back-2.ensures.effect ∙ ap Some (c.push_here.ensures.refused c.if-push_here.false
          ∙ c.deref_mut.ensures.value) ∙ sym c.in-Ok.ensures.transfer.0)
          (c.put_taken_back-2.ensures.marks_are ∙ c.take.ensures.marks)
          (λ s t r. subst (λ (it : Command). TakesStep s t it (answer_for c.push_any.result Done))
          (λ i. Push (key.1 i) (number i)) r) c.push_any.ensures.call;
    }
