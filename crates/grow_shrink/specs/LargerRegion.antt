-- A segment that grows, in a larger region if its own has no room.
use Rattle.std.specs.Prelude.{◌≡◌, ◌≤◌, ◌<◌, ◌⊎◌, ℕ, ◌+◌, ◌*◌, ◌/◌, ◌%◌, false, Option, Some, None, Result, MatchResult}
use Rattle.std.specs.Prelude.{length, max, min}
use Rattle.std.specs.List.{AllByRecursion}
use Rattle.raw_region.specs.{Memory.SameSurroundings, Memory.bytes_of, Memory.cut_at, Memory.zeros}
use Rattle.raw_region.specs.Refusals.{out_of_memory_of}
use Rattle.best_fit.specs.Heap.{SameBlock, live_of}
use Rattle.segment_manager.specs.declared.modes.Mode.{Mode}
use Rattle.segment_manager.specs.Directory.{Directory}
use Rattle.segment_manager.specs.blocks.Resized.{Resizes, grown}
use Rattle.segment_manager.specs.State.{SegmentState, DenotesCurrent}
use Rattle.segment_manager.specs.Step.{is_read_only}
use Rattle.grow_shrink.specs.declared.larger_region.GrowOrMoveError.{GrowOrMoveError}
use Rattle.grow_shrink.specs.declared.larger_region.GrowOrMoveError.TheVariants.{Growth, OutOfMemory}
use Rattle.grow_shrink.specs.declared.refusals.GrowError.{GrowError}
use Rattle.grow_shrink.specs.Resized.{growth_refusal, room_of}

-- the capacity of the region for this many bytes: a multiple of 16 from 176 to 1073741824
abbrev pub region_len : ℕ → ℕ
region_len bytes = (max 176 (min bytes 1073741824) + 15) / 16 * 16

-- the first reason not to grow a segment, which is none of its region
abbrev pub growth_reason : Mode → ℕ → ℕ → Option GrowError
growth_reason mode size extra = growth_refusal mode size extra (size + extra)

-- no such reason stands against this many bytes more
pub record MayGrow (s : SegmentState) (extra : ℕ) : Type 0 where
  pub may : (d : Directory) → DenotesCurrent s.cut.bytes d → growth_reason s.mode d.size extra ≡ None

-- the region ends before the segment with this many bytes more would
abbrev pub IsTooLongFor : SegmentState → ℕ → Type 0
IsTooLongFor s extra = room_of s.cut < length s.cut.bytes + extra

-- the segment may grow, and its region is too short for that
pub record IsShortOfRoom (s : SegmentState) (extra : ℕ) : Type 0 where
  pub writing : is_read_only s.mode ≡ false
  pub long : 32 ≤ extra
  pub whole : extra % 16 ≡ 0
  pub small : length s.cut.bytes + extra ≤ 1073741824
  pub may : MayGrow s extra
  pub short : IsTooLongFor s extra

-- The region was too short. The segment stands at the front of another of the capacity for its bytes, which has 0 after
-- them; the payload and the colour of each block stay.
pub record MovesOut (old new : SegmentState) (extra : ℕ) : Type 0 where
  pub short : IsTooLongFor old extra
  pub place : SameSurroundings
      (cut_at (zeros (region_len (length new.cut.bytes))) 0 (length new.cut.bytes)) new.cut
  pub blocks : AllByRecursion (SameBlock (bytes_of old.cut.bytes) (bytes_of new.cut.bytes))
      (live_of old.cut.bytes).extents

-- the segment is open as before, and each directory has this many bytes more; it moves only if its region is too short
pub record GrowsOrMovesOk (old new : SegmentState) (extra : ℕ) : Type 0 where
  pub may : MayGrow old extra
  pub mode : new.mode ≡ old.mode
  pub denotes : (d : Directory) → DenotesCurrent old.cut.bytes d → DenotesCurrent new.cut.bytes (grown d extra)
  pub place : Resizes old new (λ d. grown d extra) ⊎ MovesOut old new extra

-- a reason stands against it, which is the one that is told
pub record HasGrowthReason (s : SegmentState) (extra : ℕ) (reason : GrowError) : Type 0 where
  pub applies : (d : Directory) → DenotesCurrent s.cut.bytes d → growth_reason s.mode d.size extra ≡ Some reason

-- nothing changes, for the first reason that stands against it, or because memory for a larger region was refused
abbrev pub GrowsOrMovesErr : SegmentState → SegmentState → ℕ → GrowOrMoveError → Type 0
GrowsOrMovesErr old new extra (Growth reason) = (new ≡ old) × HasGrowthReason old extra reason
GrowsOrMovesErr old new extra (OutOfMemory refusal) =
    (new ≡ old) × IsShortOfRoom old extra × (refusal ≡ out_of_memory_of (region_len (length old.cut.bytes + extra)))

-- `grow_or_move`: the segment has more bytes, in place or in a larger region, or nothing changes
abbrev pub GrowsOrMoves : SegmentState → SegmentState → ℕ → Result (Unit {0}) GrowOrMoveError → Type 0
GrowsOrMoves old new extra result =
    MatchResult result (λ u. GrowsOrMovesOk old new extra) (λ why. GrowsOrMovesErr old new extra why)
