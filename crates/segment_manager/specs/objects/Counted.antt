-- The legal number of elements of an array of scalars.
use Rattle.std.specs.Prelude.{◌≡◌, ℕ, Bool, false, ◌&&◌, if◌then◌else◌, nat_le, Result, Err}
use Rattle.seg_types.specs.declared.refusals.Refusal.{Refusal}
use Rattle.seg_types.specs.declared.refusals.Refusal.TheVariants.{OutOfRange, ReadOnly}
use Rattle.segment_manager.specs.{State.SegmentState, Step.is_read_only}

-- whether the number is from 1 to 1048576
abbrev pub is_count : ℕ → Bool
is_count n = nat_le 1 n && nat_le n 1048576

-- the error for any other number: ReadOnly if the segment is open for reading, otherwise OutOfRange
abbrev pub refusal_of_count : SegmentState → Refusal
refusal_of_count s = if is_read_only s.mode then ReadOnly else OutOfRange

-- if the number is not legal, the call fails with this error and changes nothing
abbrev pub RefusesCount : {A : Type 0} → ℕ → SegmentState → SegmentState → Result A Refusal → Type 0
RefusesCount n old new result = is_count n ≡ false → (result ≡ Err (refusal_of_count old)) × (new ≡ old)
