-- A transaction over several calls: a copy of the segment before them, and a rollback to the copy.
use Rattle.std.specs.Prelude.{◌≡◌, ◌≤◌, ℕ, nat_le, length, false, true, if◌then◌else◌}
use Rattle.raw_region.specs.Memory.{SameSurroundings, cut_at, whole, zeros}
use Rattle.segment_manager.specs.{declared.modes.Mode.Mode, State.SegmentState, Step.is_read_only}
use Rattle.grow_shrink.specs.{LargerRegion.region_len, Resized.room_of}

-- the copy has the segment's bytes and its mode, and begins a region of its own, whose other bytes are 0
pub record CopiesSegment (s t : SegmentState) : Type 0 where
  pub bytes : t.cut.bytes ≡ s.cut.bytes
  pub mode : t.mode ≡ s.mode
  pub place : SameSurroundings (cut_at (zeros (region_len (length s.cut.bytes))) 0 (length s.cut.bytes)) t.cut

-- the code of a begin: 4 if the segment is open for reading; otherwise 0, or 26 if memory for the copy was refused
pub record IsBeginCode (mode : Mode) (code : ℕ) : Type 0 where
  pub reading : is_read_only mode ≡ true → code ≡ 4
  pub writing : is_read_only mode ≡ false → 1 ≤ code → code ≡ 26

-- the code of a rollback to a copy: 0, or 4 if the segment is open for reading, or 27 if its region is too short
abbrev pub rollback_code : SegmentState → SegmentState → ℕ
rollback_code s copy =
    if is_read_only s.mode then 4
    else if nat_le (length copy.cut.bytes) (room_of s.cut) then 0
    else 27

-- the segment has the copy's bytes, at the front of its region, and no other byte of the region changed
pub record RollsBack (s copy t : SegmentState) : Type 0 where
  pub bytes : t.cut.bytes ≡ copy.cut.bytes
  pub place : SameSurroundings (cut_at (whole s.cut) 0 (length copy.cut.bytes)) t.cut
  pub mode : t.mode ≡ s.mode
