-- A directory in a larger or smaller segment.
use Rattle.std.specs.Prelude.{◌≡◌, ℕ, ◌+◌, ◌-◌, ◌%◌, ◌≤◌, not, ◌||◌, Option, Some, None, Result, Ok, Err, ◌==◌, nat_lt}
use Rattle.std.specs.Prelude.{if◌then◌else◌, length}
use Rattle.raw_region.specs.Memory.{WindowState, whole}
use Rattle.segment_manager.specs.declared.modes.Mode.{Mode}
use Rattle.segment_manager.specs.Directory.{Directory, IsDirectory}
use Rattle.segment_manager.specs.State.{SegmentState, DenotesCurrent}
use Rattle.segment_manager.specs.Step.{is_read_only}
use Rattle.grow_shrink.specs.declared.refusals.GrowError.{GrowError}
use Rattle.grow_shrink.specs.declared.refusals.GrowError.TheVariants.{ReadOnly, BadGrow, TooLarge, RegionTooSmall}
-- the directory with this many bytes more, and as far as its last extent and the end tag
pub use Rattle.segment_manager.specs.blocks.Resized.{grown, shrunk}

-- the number of bytes of the region from the segment's base on
abbrev pub room_of : WindowState → ℕ
room_of c = length (whole c) - length c.before

-- the first reason not to grow a segment by extra bytes: read only; less than 32 bytes or no multiple of 16; over 2^30;
-- the region ends before
abbrev pub growth_refusal : Mode → ℕ → ℕ → ℕ → Option GrowError
growth_refusal mode size extra room =
    if is_read_only mode then Some ReadOnly
    else if nat_lt extra 32 || not (extra % 16 == 0) then Some BadGrow
    else if nat_lt 1073741824 (size + extra) then Some TooLarge
    else if nat_lt room (size + extra) then Some RegionTooSmall
    else None

-- the one reason not to shrink it
abbrev pub shrink_refusal : Mode → Option GrowError
shrink_refusal mode = if is_read_only mode then Some ReadOnly else None

-- why a call was refused, if it was
abbrev pub growth_error_of : Result (Unit {0}) GrowError → Option GrowError
growth_error_of (Ok u) = None
growth_error_of (Err why) = Some why

-- the call is refused exactly if this says so of the directory, and for this reason
pub record IsRefusedBy (old : SegmentState) (result : Result (Unit {0}) GrowError) (why : Directory
    → Option GrowError) : Type 0 where
  pub refused : (d : Directory) → DenotesCurrent old.cut.bytes d → growth_error_of result ≡ why d

-- the law: if a segment may be so much larger, its directory is one there
abbrev pub GrownIsDirectory : Type 0
GrownIsDirectory = (format : ℕ) (d : Directory) (extra : ℕ) → IsDirectory format d → 32 ≤ extra → extra % 16 ≡ 0
    → d.size + extra ≤ 1073741824 → IsDirectory format (grown d extra)

-- the law: the bytes after the last extent can be cut off
abbrev pub ShrunkIsDirectory : Type 0
ShrunkIsDirectory = (format : ℕ) (d : Directory) → IsDirectory format d → IsDirectory format (shrunk d)

-- the law: no smaller size serves the same extents
abbrev pub ShrunkIsLeast : Type 0
ShrunkIsLeast = (format : ℕ) (d : Directory) (size : ℕ)
    → IsDirectory format d → IsDirectory format (record d { size = size }) → (shrunk d).size ≤ size
