-- A segment that moves to another region.
use Rattle.std.specs.Prelude.{◌≡◌, ◌<◌, ◌≤◌, ℕ, ◌+◌, List, length, Result, MatchResult}
use Rattle.raw_region.specs.Memory.{SameSurroundings, cut_at, whole}
use Rattle.segment_manager.specs.declared.errors.RelocateRefused.{RelocateRefused}
use Rattle.segment_manager.specs.{Directory.Directory, State.SegmentState, State.DenotesCurrent}

-- The segment is at the base of the region with its old bytes and its old mode. All other bytes of the region are
-- unchanged, and so are all bytes of the old region.
pub record RelocatesTo (old : SegmentState) (region : List ℕ) (base : ℕ) (new : SegmentState) (behind : List ℕ) :
    Type 0 where
  pub fits : base + length old.cut.bytes ≤ length region
  pub place : SameSurroundings (cut_at region base (length old.cut.bytes)) new.cut
  pub bytes : new.cut.bytes ≡ old.cut.bytes
  pub directory : (d : Directory) → DenotesCurrent old.cut.bytes d → DenotesCurrent new.cut.bytes d
  pub mode : new.mode ≡ old.mode
  pub left : behind ≡ whole old.cut

-- the region is too small, and the segment and the region are returned unchanged
pub record IsNotRelocated (old : SegmentState) (region : List ℕ) (base : ℕ) (refused : RelocateRefused) : Type 0 where
  pub too_small : length region < base + length old.cut.bytes
  pub segment_same : refused.segment ≡ old
  pub region_same : refused.region ≡ region

-- the segment moves to another region, or that region is too small and both are unchanged
abbrev pub Relocates : SegmentState → List ℕ → ℕ → Result (SegmentState × List ℕ) RelocateRefused → Type 0
Relocates old region base result =
    MatchResult result (λ moved. RelocatesTo old region base moved.0 moved.1) (IsNotRelocated old region base)
