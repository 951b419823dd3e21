-- The text is appended to the vector of strings.
use Rattle.segment_manager.proofs.bound.texts.BoundMut+Texts.push.Goals as goal
use Rattle.segment_manager.proofs.{Common.refl, bound.ByKey.still-bound, bound.ByKey.texts-here, bound.ByKey.to-change}
use Rattle.segment_manager.proofs.containers.{Safely.of-error, TextListCalls.text-first, TextListCalls.text-pushed}

pub push-requires : goal.push-requires
push-requires c = texts-here c.segment.view_is c.segment.invariant c.own_container-place.ensures c.args.self.now.live

pub invariant_of-segment : goal.invariant_of-segment
invariant_of-segment c = (text-pushed c.segment.view_is c.segment.invariant (to-change c.args.self.now.live
    c.args.self.now.writing c.own_container-place.ensures) _ _ _ c.type_inv.text c.push.ensures.changes).segment

pub invariant_of-self : goal.invariant_of-self
invariant_of-self c = still-bound c.args.self.now.live c.args.self.now.writing c.segment.view_is c.segment.invariant _ _
    _ _ _ refl (text-pushed c.segment.view_is c.segment.invariant (to-change c.args.self.now.live
    c.args.self.now.writing c.own_container-place.ensures) _ _ _ c.type_inv.text c.push.ensures.changes).step

pub returns : goal.returns
returns c =
    let there = texts-here c.segment.view_is c.segment.invariant c.own_container-place.ensures c.args.self.now.live in
    let done = text-pushed c.segment.view_is c.segment.invariant (to-change c.args.self.now.live c.args.self.now.writing
    c.own_container-place.ensures) _ _ _ c.type_inv.text c.push.ensures.changes in
    record {
      unchanged = record { loan = refl; object = refl };
      step = done.step;
      refused = done.refused;
      error = of-error _ c.push.result (c.push.ensures.changes there.0 there.1.0 there.1.1) (λ e m. m.refusal);
      first = text-first c.segment.view_is c.segment.invariant (to-change c.args.self.now.live c.args.self.now.writing
          c.own_container-place.ensures) _ _ c.push.ensures.first;
    }
