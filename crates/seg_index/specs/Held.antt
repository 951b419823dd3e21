-- An index of a heap, with its block.
use Rattle.std.specs.Prelude.{◌≡◌, ℕ, ◌+◌, ◌%◌, ◌≤◌, Some, IfSome, List, length, IsTrue}
use Rattle.std.specs.List.{AllByRecursion}
use Rattle.raw_region.specs.{Memory.WindowState, Memory.bytes_of, Memory.word_at, Format.current}
use Rattle.block_tags.specs.declared.tile.Role.TheVariants.{Index as IndexRole}
use Rattle.best_fit.specs.{Extents.handle, Heap.IsHeap, Heap.extent_at, Heap.live_of, Table.BackingArray}
use Rattle.best_fit.specs.{Table.has_backing}
use Rattle.seg_index.specs.{declared.index.Index.Index, Index.IsIndexAt}
use Rattle.seg_index.specs.declared.index.Index.TheVariants.{Named, Unique}

-- the offset of the three words of an index in the header
abbrev pub index_at : Index → ℕ
index_at Named = 32
index_at Unique = 56

-- the count in the words of an index
abbrev pub entry_count : WindowState → ℕ → ℕ
entry_count c at = word_at (bytes_of c.bytes) (at + 8)

-- the capacity in the words of an index
abbrev pub capacity_at : WindowState → ℕ → ℕ
capacity_at c at = word_at (bytes_of c.bytes) (at + 16)

-- An index in the header of a heap: its block is in use and has room for its capacity, and its length is at most its
-- capacity.
pub record IsIndexOf (c : WindowState) (at : ℕ) (t : BackingArray) (handles : List ℕ) : Type 0 where
  pub heap : IsHeap current c.bytes
  pub stands : IsIndexAt (bytes_of c.bytes) at t handles
  pub slots : IsTrue (has_backing IndexRole 8 t)
  pub few : length handles ≤ t.capacity
  pub held : IfSome t.extent (λ x. extent_at (live_of c.bytes) (handle x) ≡ Some x)
  pub whole : AllByRecursion (λ h. h % 16 ≡ 0) handles

-- an index is at an offset of the header
pub record HasIndex (c : WindowState) (at : ℕ) : Type 0 where
  pub table : BackingArray
  pub handles : List ℕ
  pub index : IsIndexOf c at table handles

-- the index has this capacity, in a block that was in use before
abbrev pub InstallsBlock : WindowState → WindowState → ℕ → ℕ → ℕ → List ℕ → Type 0
InstallsBlock old new at block slots handles =
    IsIndexOf new at (record { capacity = slots; extent = extent_at (live_of old.bytes) block }) handles
