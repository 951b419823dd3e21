-- The effects of index calls on a heap.
use Rattle.std.specs.Prelude.{◌≡◌, ℕ, ◌+◌, ◌*◌, ◌<◌, ◌≤◌, Option, Some, None, Result, MatchResult, IfSome, List, IsTrue}
use Rattle.std.specs.List.{AllByRecursion}
use Rattle.raw_region.specs.Memory.{WindowState, SameBytes, SameSurroundings, bytes_of}
use Rattle.raw_region.specs.Format.{current}
use Rattle.block_tags.specs.declared.tile.Role.TheVariants.{Index as IndexRole}
use Rattle.best_fit.specs.Heap.{extent_at, AllocatesOk, AllocatesNoSpace, Deallocates, KeepsBlocks, EncodesLiveSet}
use Rattle.best_fit.specs.{Heap.SameBlock, Heap.is_live_in, Heap.live_of, Extents.Extent, Extents.LiveSet}
use Rattle.best_fit.specs.{Extents.handle, Table.BackingArray, Table.serves, Fit.others, Fit.released}
use Rattle.offset_link.specs.Link.{link_at}
use Rattle.seg_index.specs.Held.{InstallsBlock, IsIndexOf, capacity_at, entry_count}
use Rattle.seg_index.specs.{Index.grown_capacity, declared.index_capacity.Growth.Growth}

-- the number of bytes that a full index allocates
abbrev pub grown_bytes : WindowState → ℕ → ℕ
grown_bytes c at = 8 * grown_capacity (capacity_at c at)

-- a new block is allocated exactly if the index is full
abbrev pub PreparesOk : WindowState → WindowState → ℕ → Option ℕ → Type 0
PreparesOk old new at None = (entry_count old at < capacity_at old at) × (new ≡ old)
PreparesOk old new at (Some h) =
    (capacity_at old at ≤ entry_count old at) × AllocatesOk current old new (grown_bytes old at) IndexRole h

-- a larger block is allocated for a full index while its own stays, or there is no space and nothing changes
abbrev pub Prepares : {E : Type 0} → WindowState → WindowState → ℕ → Result Growth E → Type 0
Prepares old new at result =
    MatchResult result (λ g. PreparesOk old new at g.block)
    (λ e. (capacity_at old at ≤ entry_count old at) × AllocatesNoSpace old new (grown_bytes old at) IndexRole)

-- the block is freed, if there is one
abbrev pub FreesGrowth : WindowState → WindowState → Option ℕ → Type 0
FreesGrowth old new None = new ≡ old
FreesGrowth old new (Some h) = Deallocates current old new h

-- the block of a growth is in use, if there is one
abbrev pub IsLiveGrowth : WindowState → Growth → Type 0
IsLiveGrowth c g = IfSome g.block (λ h. IsTrue (is_live_in (live_of c.bytes) h))

-- the live set and its blocks are the ones before the block of the growth was allocated
abbrev pub Restores : WindowState → WindowState → Growth → Type 0
Restores old new g = IfSome g.block (λ h. (before : WindowState) (n : ℕ) → AllocatesOk current before old n IndexRole h
    → EncodesLiveSet current new.bytes (live_of before.bytes) × KeepsBlocks before new (live_of before.bytes).extents)

-- the window's place and these blocks stay, and so does the header except word 24 and the three words of an index
pub record KeepsOutsideIndex (old new : WindowState) (at : ℕ) (xs : List Extent) : Type 0 where
  pub place : SameSurroundings old new
  pub front : SameBytes (bytes_of old.bytes) (bytes_of new.bytes) 0 24
  pub before : SameBytes (bytes_of old.bytes) (bytes_of new.bytes) 32 at
  pub behind : SameBytes (bytes_of old.bytes) (bytes_of new.bytes) (at + 24) 128
  pub blocks : AllByRecursion (SameBlock (bytes_of old.bytes) (bytes_of new.bytes)) xs

-- the extents except the block of an index
abbrev pub beside_table : BackingArray → List Extent → List Extent
beside_table t xs = elim t.extent [ None ↦ xs | Some x ↦ others (handle x) xs ]

-- a block in use with room for this capacity of an index
pub record IsBlockFor (c : WindowState) (h slots : ℕ) : Type 0 where
  pub extent : Extent
  pub found : extent_at (live_of c.bytes) h ≡ Some extent
  pub fits : IsTrue (serves extent IndexRole (8 * slots))

-- the live set without the block behind a link
abbrev pub without_link : LiveSet → Option ℕ → LiveSet
without_link live link = elim link [ None ↦ live | Some h ↦ released live h ]

-- the live set without the block of an index
abbrev pub without_index_block : WindowState → ℕ → LiveSet
without_index_block c at = without_link (live_of c.bytes) (link_at (bytes_of c.bytes) at)

-- a growth that suits an index: none if the capacity allows one more entry, or a block with enough capacity that is not
-- its own
abbrev pub CanGrow : WindowState → ℕ → Option ℕ → Type 0
CanGrow c at None = entry_count c at < capacity_at c at
CanGrow c at (Some h) =
    IsBlockFor c h (grown_capacity (capacity_at c at)) × (link_at (bytes_of c.bytes) at ≡ Some h → ⊥)

-- the index has the new entry, in the larger block if there is one
abbrev pub AddsEntry : WindowState → WindowState → ℕ → BackingArray → List ℕ → Option ℕ → Type 0
AddsEntry old new at t handles None = IsIndexOf new at t handles
AddsEntry old new at t handles (Some h) = InstallsBlock old new at h (grown_capacity (capacity_at old at)) handles

-- the live set after an entry was added
abbrev pub grown_live : WindowState → ℕ → Option ℕ → LiveSet
grown_live c at None = live_of c.bytes
grown_live c at (Some h) = without_index_block c at

-- adding an entry keeps the other index, the header, and every block except the block of the index
abbrev pub AddKeeps : WindowState → WindowState → ℕ → BackingArray → Option ℕ → Type 0
AddKeeps old new at t None = KeepsOutsideIndex old new at (beside_table t (live_of old.bytes).extents)
AddKeeps old new at t (Some h) = KeepsOutsideIndex old new at (others h (without_index_block old at).extents)
