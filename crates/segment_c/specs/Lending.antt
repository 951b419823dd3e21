-- Segments in memory that C lends: what the calls owe.
use Rattle.std.specs.Prelude.{◌≡◌, ◌≤◌, ℕ, nat_le, List, [], length, true, if◌then◌else◌}
use Rattle.raw_region.specs.Memory.{part, whole}
use Rattle.segment_manager.specs.{declared.modes.Mode.Mode, State.IsSegment, State.SegmentState}
use Rattle.segment_c.specs.{Calls.HoldsSegment, Calls.RefusesArgument, Images.mode_of, Images.mode_wrong}
use Rattle.segment_c.specs.{Marked.PlacesSegment, Opening.IsWhyNotOpened, Opening.capacity_wrong, Passed.or_else}
use Rattle.segment_c.specs.declared.slot.Slot.{Slot}

-- the memory may be a region, and an image of this many bytes fits into it
abbrev pub memory_wrong : ℕ → ℕ → ℕ
memory_wrong n len = or_else (capacity_wrong n) (if nat_le len n then 0 else 22)

-- The segment is the image that stands at the front of the memory, of which no byte has changed.
pub record IsOpenedHere (memory : List ℕ) (len : ℕ) (mode : Mode) (s : SegmentState) : Type 0 where
  pub bytes : s.cut.bytes ≡ part memory 0 len
  pub region : whole s.cut ≡ memory
  pub mode_is : s.mode ≡ mode
  pub denotes : IsSegment s.cut.bytes

-- a call that opens the image at the front of lent memory in place: the handle and the memory are as they were unless
-- the code is 0, and nothing is left of the memory then
pub record OpensHere (memory rest : List ℕ) (len mode code : ℕ) (old new : Slot) : Type 0 where
  pub stop : RefusesArgument (or_else (memory_wrong (length memory) len) (mode_wrong mode)) code old.segment.value
      new.segment.value
  pub opening : code ≡ 0 → HoldsSegment new.segment.value (λ t. IsOpenedHere memory len (mode_of mode) t)
  pub cause : or_else (memory_wrong (length memory) len) (mode_wrong mode) ≡ 0 → 1 ≤ code
      → IsWhyNotOpened (part memory 0 len) (length memory) code
  pub unchanged_on_error : 1 ≤ code → new.segment.value ≡ old.segment.value
  pub transfer : code ≡ 0 → rest ≡ []
  pub remainder : 1 ≤ code → rest ≡ memory
  pub marks : PlacesSegment code old.marks new.marks true
