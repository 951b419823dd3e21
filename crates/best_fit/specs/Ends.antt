-- A heap whose window's end moves in its region.
use Rattle.std.specs.Prelude.{◌≡◌, ℕ, ◌+◌, ◌-◌, List, [], ◌∷◌, ◌++◌, length, drop}
use Rattle.std.specs.List.{AllByRecursion}
use Rattle.raw_region.specs.Memory.{WindowState, SameBytes, bytes_of, whole}
use Rattle.block_tags.specs.declared.tile.Role.TheVariants.{Object}
use Rattle.best_fit.specs.Extents.{Extent, LiveSet, end_of}
use Rattle.best_fit.specs.Heap.{EncodesLiveSet, SameBlock, live_of}

-- the end of the last extent, or an offset if there is none
abbrev pub last_end : ℕ → List Extent → ℕ
last_end from [] = from
last_end from (x ∷ xs) = last_end (end_of x) xs

-- the least size for these extents: the header, the bytes up to the end of the last extent, and the end tag
abbrev pub least_size : LiveSet → ℕ
least_size live = last_end 128 live.extents + 16

-- a live set with its extents in a segment of another size
abbrev pub of_size : LiveSet → ℕ → LiveSet
of_size live size = record live { size = size }

-- the window has its old base and this many bytes; the region keeps its length, and the bytes after both ends are
-- unchanged
pub record EndsAt (old new : WindowState) (size : ℕ) : Type 0 where
  pub before : new.before ≡ old.before
  pub bytes : length new.bytes ≡ size
  pub capacity : length (whole new) ≡ length (whole old)
  pub after : drop (length old.bytes - size) new.after ≡ drop (size - length old.bytes) old.after

-- the window's end moves; these blocks stay, and so does each header word except the one at 24
pub record KeepsTo (old new : WindowState) (size : ℕ) (xs : List Extent) : Type 0 where
  pub place : EndsAt old new size
  pub front : SameBytes (bytes_of old.bytes) (bytes_of new.bytes) 0 24
  pub behind : SameBytes (bytes_of old.bytes) (bytes_of new.bytes) 32 128
  pub blocks : AllByRecursion (SameBlock (bytes_of old.bytes) (bytes_of new.bytes)) xs

-- the window has this many bytes, and the same blocks are in use
pub record MovesEnd (format : ℕ) (old new : WindowState) (size : ℕ) : Type 0 where
  pub live : EncodesLiveSet format new.bytes (of_size (live_of old.bytes) size)
  pub keeps : KeepsTo old new size (live_of old.bytes).extents

-- the block of this many bytes that begins at the old end tag of a segment of this size
abbrev pub block_behind : ℕ → ℕ → Extent
block_behind size extra = record { offset = size - 16; len = extra; role = Object }

-- the window is longer by these bytes, which are a block in use after all others
pub record AppendsBlock (format : ℕ) (old new : WindowState) (extra : ℕ) : Type 0 where
  pub live : EncodesLiveSet format new.bytes (record {
    size = length old.bytes + extra;
    extents = (live_of old.bytes).extents ++ block_behind (length old.bytes) extra ∷ [];
  })
  pub keeps : KeepsTo old new (length old.bytes + extra) (live_of old.bytes).extents
