use Rattle.segment_c.proofs.elements.zx_push.Goals as goal
use Rattle.std.proofs.{Common.refl, Common.rules, Common.subst, Common.sym, Common.w64, lemmas.Int.to_z-of_z}
use Rattle.seg_types.specs.{Commands.Command, Commands.Integer, Commands.Push, Names.ByHandle}
use Rattle.segment_manager.specs.{Answers.Done, State.SegmentState, State.TakesStep}
use Rattle.segment_c.specs.{Codes.answer_for, Passed.or_else}
use Rattle.segment_c.proofs.slot.GoingOn.{changes, number-is, number-right}

pub returns : goal.returns
returns c =
    let it = c.in-Some-Some in
    let step = λ (it : Command) (s t : SegmentState). TakesStep s t it (answer_for c.zx_push_i64.result Done) in
    record {
      call = changes {old = c.args.h.now} {lent = c.args.h.now} {new = c.zx_push_i64.new.h}
          (λ i. or_else (sym it.ensures.0 i) (sym (number-right c.args.value.now it.ensures') i)) refl refl
          (λ s t r. subst (λ (it : Command). step it s t)
          (λ i. Push (sym it.ensures.1 i) (sym (number-is c.args.value.now it.ensures') i))
          (subst (λ (it : Command). step it s t) (λ i. Push (ByHandle it.handle)
          (Integer (to_z-of_z w64 it.number (search rules) i))) r)) c.zx_push_i64.ensures.call;
    }
