-- Segments that become longer or shorter, and that move into other regions: what the calls owe.
use Rattle.std.specs.Prelude.{◌≡◌, ◌≤◌, ℕ, Option, Some, None, length}
use Rattle.raw_region.specs.Memory.{SameSurroundings, cut_at, zeros}
use Rattle.segment_manager.specs.State.{SegmentState}
use Rattle.grow_shrink.specs.declared.refusals.GrowError.{GrowError}
use Rattle.grow_shrink.specs.declared.refusals.GrowError.TheVariants.{ReadOnly, BadGrow, TooLarge, RegionTooSmall}

-- the code by which a segment does not become longer or shorter
abbrev pub size_code : Option GrowError → ℕ
size_code None = 0
size_code (Some ReadOnly) = 4
size_code (Some BadGrow) = 28
size_code (Some TooLarge) = 29
size_code (Some RegionTooSmall) = 27

-- the segment with its bytes and its mode, at the front of a region of this many bytes, of which the others are 0
pub record MovesSegment (s t : SegmentState) (capacity : ℕ) : Type 0 where
  pub fits : length s.cut.bytes ≤ capacity
  pub bytes : t.cut.bytes ≡ s.cut.bytes
  pub mode : t.mode ≡ s.mode
  pub place : SameSurroundings (cut_at (zeros capacity) 0 (length s.cut.bytes)) t.cut
