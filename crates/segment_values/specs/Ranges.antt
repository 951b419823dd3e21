-- Reading a range of the elements of an array or a vector of scalars.
use Rattle.std.specs.Prelude.{◌≡◌, ℕ, ◌*◌, ℤ, Some, true, Result, Ok, Err, List, length, map, slice_get}
use Rattle.raw_region.specs.Memory.{part}
use Rattle.seg_types.specs.{declared.kinds.ScalarKind.ScalarKind, declared.refusals.Refusal.Refusal, Kinds.is_value}
use Rattle.seg_types.specs.Kinds.{size_of, spelling}
pub use Rattle.segment_manager.specs.containers.Ranges.{is_slice, numbers_if, range_at, range_in, range_of}

-- the bytes encode this many values of a kind, one after another
pub record AreSpelled (k : ScalarKind) (n : ℕ) (zs : List ℤ) (bytes : List ℕ) : Type 0 where
  pub len : length zs ≡ n
  pub each : (i : ℕ) (z : ℤ) → slice_get zs i ≡ Some z → (is_value k z ≡ true)
      × (part bytes (size_of k * i) (size_of k) ≡ spelling k z)

-- the elements that a call read into a slice, or its error
abbrev pub read_into : {A : Type 0} → (A → ℤ) → List A → Result (Unit {0}) Refusal → Result (List ℤ) Refusal
read_into whole series (Ok u) = Ok (map whole series)
read_into whole series (Err why) = Err why
