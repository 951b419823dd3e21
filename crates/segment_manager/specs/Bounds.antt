-- An object that is bound for changes, before and after a call.
use Rattle.std.specs.Prelude.{◌≡◌}
use Rattle.segment_manager.specs.declared.bound.BoundMut.{BoundMut}

-- the segment is borrowed as before, and the object is the same
pub record SameBound {C : Type 0} {g : _} (old new : BoundMut C g) : Type 0 where
  pub loan : new.segment.ghost_name ≡ old.segment.ghost_name
  pub object : new.object ≡ old.object
