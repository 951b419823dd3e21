-- The byte is written in the string.
use Rattle.segment_manager.proofs.bound.texts.BoundMut+StringBytes.set.Goals as goal
use Rattle.segment_manager.proofs.{Common.lt-ltb, Common.refl, containers.Safely.of-error}
use Rattle.segment_manager.proofs.bound.ByKey.{still-bound, text-here, to-change}
use Rattle.segment_manager.proofs.containers.TextAnswers.{byte-value, set_byte-gaps, text-set}

pub set-requires : goal.set-requires
set-requires c = text-here c.segment.view_is c.segment.invariant c.own_container-place.ensures c.args.self.now.live

pub invariant_of-segment : goal.invariant_of-segment
invariant_of-segment c = (text-set c.segment.view_is c.segment.invariant (to-change c.args.self.now.live
    c.args.self.now.writing c.own_container-place.ensures) _ _ _ _ (lt-ltb _ _ c.ranges.byte.fits) (byte-value _
    c.ranges.byte.fits) c.set.ensures).segment

pub invariant_of-self : goal.invariant_of-self
invariant_of-self c = still-bound c.args.self.now.live c.args.self.now.writing c.segment.view_is c.segment.invariant _ _
    _ _ _ refl (text-set c.segment.view_is c.segment.invariant (to-change c.args.self.now.live c.args.self.now.writing
    c.own_container-place.ensures) _ _ _ _ (lt-ltb _ _ c.ranges.byte.fits) (byte-value _ c.ranges.byte.fits)
    c.set.ensures).step

pub returns : goal.returns
returns c =
    let there = text-here c.segment.view_is c.segment.invariant c.own_container-place.ensures c.args.self.now.live in
    let done = text-set c.segment.view_is c.segment.invariant (to-change c.args.self.now.live c.args.self.now.writing
    c.own_container-place.ensures) _ _ _ _ (lt-ltb _ _ c.ranges.byte.fits) (byte-value _ c.ranges.byte.fits)
    c.set.ensures in
    record {
      unchanged = record { loan = refl; object = refl };
      step = done.step;
      refused = done.refused;
      error = of-error _ c.set.result (c.set.ensures there.0 there.1.0 there.1.1) (λ e m. m.refusal);
      gaps = set_byte-gaps c.segment.view_is c.segment.invariant (to-change c.args.self.now.live c.args.self.now.writing
          c.own_container-place.ensures) _ _ _ _ c.set.ensures;
    }
