-- The right to write a file, which is taken first and given back last.
use Rattle.std.specs.Prelude.{ℕ, true, List}
use Rattle.segment_disk.specs.Events.{Event, Held, Released}

-- the lock of a file was taken, this was done, and the lock was given back
pub record RunsLocked {D : Type 0} (step : D → Event → D → Type 0) (old new : D) (path : List ℕ) (does : D → D
    → Type 0) : Type 0 where
  pub held : D
  pub taken : step old (Held path true) held
  pub done : D
  pub goes : does held done
  pub given_back : step done Released new
