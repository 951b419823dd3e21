-- The bytes are appended to the string.
use Rattle.segment_manager.proofs.bound.texts.BoundMut+StringBytes.append.Goals as goal
use Rattle.segment_manager.proofs.{Common.refl, bound.ByKey.still-bound, bound.ByKey.text-here, bound.ByKey.to-change}
use Rattle.segment_manager.proofs.containers.{Safely.of-error, TextAnswers.append-gaps, TextAnswers.text-appended}

pub append-requires : goal.append-requires
append-requires c = text-here c.segment.view_is c.segment.invariant c.own_container-place.ensures c.args.self.now.live

pub invariant_of-segment : goal.invariant_of-segment
invariant_of-segment c = (text-appended c.segment.view_is c.segment.invariant (to-change c.args.self.now.live
    c.args.self.now.writing c.own_container-place.ensures) _ _ _ c.type_inv.bytes c.append.ensures).segment

pub invariant_of-self : goal.invariant_of-self
invariant_of-self c = still-bound c.args.self.now.live c.args.self.now.writing c.segment.view_is c.segment.invariant _ _
    _ _ _ refl (text-appended c.segment.view_is c.segment.invariant (to-change c.args.self.now.live
    c.args.self.now.writing c.own_container-place.ensures) _ _ _ c.type_inv.bytes c.append.ensures).step

pub returns : goal.returns
returns c =
    let there = text-here c.segment.view_is c.segment.invariant c.own_container-place.ensures c.args.self.now.live in
    let done = text-appended c.segment.view_is c.segment.invariant (to-change c.args.self.now.live
    c.args.self.now.writing c.own_container-place.ensures) _ _ _ c.type_inv.bytes c.append.ensures in
    record {
      unchanged = record { loan = refl; object = refl };
      step = done.step;
      refused = done.refused;
      error = of-error _ c.append.result (c.append.ensures there.0 there.1.0 there.1.1) (λ e m. m.refusal);
      gaps = append-gaps c.segment.view_is c.segment.invariant (to-change c.args.self.now.live c.args.self.now.writing
          c.own_container-place.ensures) _ _ _ c.append.ensures;
    }
