-- A segment whose end moves.
use Rattle.std.specs.{Prelude.◌≡◌, Prelude.ℕ, Prelude.◌+◌, Prelude.◌-◌, Prelude.length, List.AllByRecursion}
use Rattle.raw_region.specs.Memory.{WindowState, bytes_of, whole}
use Rattle.best_fit.specs.{Ends.EndsAt, Ends.least_size, Heap.SameBlock, Heap.live_of}
use Rattle.segment_manager.specs.{Directory.Directory, Directory.live, State.SegmentState, State.DenotesCurrent}

-- the directory of a segment longer by this many bytes
abbrev pub grown : Directory → ℕ → Directory
grown d extra = record d { size = d.size + extra }

-- the directory of a segment cut after its last extent and the end tag
abbrev pub shrunk : Directory → Directory
shrunk d = record d { size = least_size (live d) }

-- the number of bytes of the region after the window
abbrev pub room_behind : WindowState → ℕ
room_behind c = length (whole c) - (length c.before + length c.bytes)

-- mode and place stay, and no byte of the region after both ends changes; the payload and the colour of each block
-- stay, and the bytes denote the next directory
pub record Resizes (old new : SegmentState) (next : Directory → Directory) : Type 0 where
  pub mode : new.mode ≡ old.mode
  pub place : EndsAt old.cut new.cut (length new.cut.bytes)
  pub blocks : AllByRecursion (SameBlock (bytes_of old.cut.bytes) (bytes_of new.cut.bytes))
      (live_of old.cut.bytes).extents
  pub denotes : (d : Directory) → DenotesCurrent old.cut.bytes d → DenotesCurrent new.cut.bytes (next d)
