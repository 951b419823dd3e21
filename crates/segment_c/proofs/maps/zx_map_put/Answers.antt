use Rattle.segment_c.proofs.maps.zx_map_put.Goals as goal
use Rattle.std.proofs.{Common.refl, Common.rules, Common.subst, Common.sym, Common.w64, lemmas.Int.to_z-of_z}
use Rattle.seg_types.specs.{Commands.Command, Commands.Integer, Commands.Put, Names.ByHandle}
use Rattle.segment_manager.specs.{Answers.Boolean, State.SegmentState, State.TakesStep}
use Rattle.segment_c.specs.{Codes.answer_for, Passed.or_else}
use Rattle.segment_c.proofs.slot.GoingOn.{changes, number-is, number-right}

pub returns : goal.returns
returns c =
    let it = c.in-Some-Some-Some in
    let at = number-is c.args.at.now it.ensures' in
    let value = number-is c.args.value.now it.ensures'' in
    let step = λ (it : Command) (s t : SegmentState).
    TakesStep s t it (answer_for c.number_put.result (Boolean c.number_put.new.is_new))
    in record {
      call = changes {old = c.args.h.now} {lent = c.args.h.now} {new = c.number_put.new.h}
          (λ i. or_else (sym it.ensures.0 i) (or_else (sym (number-right c.args.at.now it.ensures') i)
          (sym (number-right c.args.value.now it.ensures'') i))) refl refl
          (λ s t r. subst (λ (it : Command). step it s t) (λ i. Put (sym it.ensures.1 i) (sym at i) (sym value i))
          (subst (λ (it : Command). step it s t) (λ i. Put (ByHandle it.handle)
          (Integer (to_z-of_z w64 it.number (search rules) i)) (Integer (to_z-of_z w64 it.new (search rules) i))) r))
          c.number_put.ensures.call;
      outputs_on_error = c.number_put.ensures.outputs_on_error;
    }
