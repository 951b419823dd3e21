-- The last text is removed from the vector of strings.
use Rattle.segment_manager.proofs.bound.texts.BoundMut+Texts.pop.Goals as goal
use Rattle.segment_manager.proofs.{Common.refl, bound.ByKey.still-led, bound.ByKey.texts-here, bound.ByKey.to-change}
use Rattle.segment_manager.proofs.containers.{Safely.of-error, TextListCalls.text-popped}

pub pop-requires : goal.pop-requires
pop-requires c = texts-here c.segment.view_is c.segment.invariant c.own_container-place.ensures c.args.self.now.live

pub invariant_of-segment : goal.invariant_of-segment
invariant_of-segment c = (text-popped c.segment.view_is c.segment.invariant (to-change c.args.self.now.live
    c.args.self.now.writing c.own_container-place.ensures) _ _ c.pop.ensures).segment

pub invariant_of-self : goal.invariant_of-self
invariant_of-self c = still-led c.args.self.now.live c.args.self.now.writing c.segment.view_is c.segment.invariant _ _ _
    _ _ refl (text-popped c.segment.view_is c.segment.invariant (to-change c.args.self.now.live c.args.self.now.writing
    c.own_container-place.ensures) _ _ c.pop.ensures).step

pub returns : goal.returns
returns c =
    let there = texts-here c.segment.view_is c.segment.invariant c.own_container-place.ensures c.args.self.now.live in
    let done = text-popped c.segment.view_is c.segment.invariant (to-change c.args.self.now.live c.args.self.now.writing
    c.own_container-place.ensures) _ _ c.pop.ensures in
    record {
      unchanged = record { loan = refl; object = refl };
      step = done.step;
      refused = done.refused;
      error = of-error _ c.pop.result (c.pop.ensures there.0 there.1.0 there.1.1) (λ e m. m.refusal);
    }
