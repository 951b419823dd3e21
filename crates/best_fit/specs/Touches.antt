-- Steps of a counter of touches.
use Rattle.std.specs.Prelude.{◌≡◌, ℕ, ◌+◌, ◌<◌, ◌≤◌}
use Rattle.best_fit.specs.declared.heap.touch_counter.TouchCounter.{TouchCounter}

-- so many touches are counted, for the same loan of the gaps
pub record TouchesTimes (old new : TouchCounter) (times : ℕ) : Type 0 where
  pub steps : new.count ≡ old.count + times
  pub loan : new.gaps.ghost_name ≡ old.gaps.ghost_name

-- one touch is counted, which changes no gap
pub record ReadsOnce (old new : TouchCounter) : Type 0 where
  pub gaps : new.gaps.now ≡ old.gaps.now
  pub steps : new.count ≡ old.count + 1
  pub loan : new.gaps.ghost_name ≡ old.gaps.ghost_name

-- at most so many touches are counted, for the same loan of the gaps
pub record TouchesUpTo (old new : TouchCounter) (most : ℕ) : Type 0 where
  pub upper : new.count ≤ old.count + most
  pub lower : old.count ≤ new.count
  pub loan : new.gaps.ghost_name ≡ old.gaps.ghost_name

-- touches are counted, for the same loan of the gaps
pub record TouchesMore (old new : TouchCounter) : Type 0 where
  pub lower : old.count ≤ new.count
  pub loan : new.gaps.ghost_name ≡ old.gaps.ghost_name

-- at least one touch is counted, for the same loan of the gaps
pub record TouchesSome (old new : TouchCounter) : Type 0 where
  pub lower : old.count < new.count
  pub loan : new.gaps.ghost_name ≡ old.gaps.ghost_name
