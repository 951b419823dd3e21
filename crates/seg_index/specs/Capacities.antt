-- The effects of calls that change the capacity of an index.
use Rattle.std.specs.Prelude.{◌≡◌, ℕ, ◌+◌, ◌*◌, ◌<◌, ◌≤◌, Some, None, Result, MatchResult, List, length, ◌==◌}
use Rattle.std.specs.Prelude.{if◌then◌else◌}
use Rattle.raw_region.specs.{Format.current, Memory.WindowState, Memory.bytes_of}
use Rattle.block_tags.specs.declared.tile.Role.TheVariants.{Index as IndexRole}
use Rattle.offset_link.specs.Link.{link_at}
use Rattle.best_fit.specs.{Extents.Extent, Extents.LiveSet, Extents.handle, Table.BackingArray, Table.shrunk_backing}
use Rattle.best_fit.specs.Fit.{added, place, released, resized, shorter}
use Rattle.best_fit.specs.Heap.{AllocatesNoSpace, KeepsGaps, EncodesLiveSet, heap_touches, live_of}
use Rattle.seg_index.specs.Growth.{KeepsOutsideIndex, beside_table, without_index_block, without_link}
use Rattle.seg_index.specs.{Held.IsIndexOf, Held.capacity_at, Sorted.KeepsSorted}

-- the index has this capacity in a new block, and its old block is freed
pub record ReservesIndexOk (old new : WindowState) (at n : ℕ) : Type 0 where
  pub extent : Extent
  pub placed : place (live_of old.bytes) (8 * n) IndexRole ≡ Some extent
  pub index : (t : BackingArray) (handles : List ℕ) → IsIndexOf old at t handles
      → IsIndexOf new at (record { capacity = n; extent = Some extent }) handles
  pub live : EncodesLiveSet current new.bytes
      (without_link (added (live_of old.bytes) extent) (link_at (bytes_of old.bytes) at))
  pub keeps : KeepsOutsideIndex old new at (without_index_block old at).extents
  pub order : KeepsSorted old new

-- nothing changes if the capacity suffices
pub record KeepsRoomyIndex (old new : WindowState) (at n : ℕ) : Type 0 where
  pub same : n ≤ capacity_at old at → new ≡ old
  pub reserved : capacity_at old at < n → ReservesIndexOk old new at n

-- an index has capacity n or more, or there is no space and nothing changes
abbrev pub ReservesIndex : {T E : Type 0} → WindowState → WindowState → ℕ → ℕ → Result T E → Type 0
ReservesIndex old new at n result =
    MatchResult result (λ v. KeepsRoomyIndex old new at n) (λ e. (capacity_at old at < n)
    × AllocatesNoSpace old new (8 * n) IndexRole)

-- the touches of one allocation, and of freeing the old block
abbrev pub reserve_steps : LiveSet → ℕ → ℕ
reserve_steps live n =
    heap_touches live + elim (place live (8 * n) IndexRole) [ None ↦ 0 | Some x ↦ heap_touches (added live x) ]

-- the live set after the block of a table is cut to n places
abbrev pub with_cut : LiveSet → ℕ → BackingArray → LiveSet
with_cut live n t = elim t.extent [
  | None ↦ live
  | Some x ↦ if n == 0 then released live (handle x) else resized live (shorter live x (8 * n))
]

-- the capacity of the index becomes its length; without a block nothing changes, and if the block is not cut, no byte
-- of a gap changes
pub record ShrinksIndex (old new : WindowState) (at : ℕ) (t : BackingArray) (handles : List ℕ) : Type 0 where
  pub same : t.extent ≡ None → new ≡ old
  pub index : IsIndexOf new at (shrunk_backing (live_of old.bytes) 8 (length handles) t) handles
  pub live : EncodesLiveSet current new.bytes (with_cut (live_of old.bytes) (length handles) t)
  pub keeps : KeepsOutsideIndex old new at (beside_table t (live_of old.bytes).extents)
  pub order : KeepsSorted old new
  pub gaps : (x : Extent) → t.extent ≡ Some x → 0 < length handles
      → shorter (live_of old.bytes) x (8 * length handles) ≡ x → KeepsGaps old new
