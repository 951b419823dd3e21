-- A container at a place in a heap: its three words in a block, and its storage, which is a block of its own.
use Rattle.std.specs.Prelude.{◌≡◌, ◌≢◌, ℕ, ◌+◌, ◌*◌, ◌%◌, ◌≤◌, ⊤, IsTrue, Option, Some, None, Result, MatchResult, List}
use Rattle.std.specs.Prelude.{length, option_to_list}
use Rattle.raw_region.specs.{Memory.WindowState, Memory.bytes_of, Memory.word_at, Format.current}
use Rattle.block_tags.specs.declared.tile.Role.TheVariants.{Storage}
use Rattle.best_fit.specs.{Exchange.ExchangesBlocks, Extents.Extent, Extents.LiveSet, Extents.handle}
use Rattle.best_fit.specs.{Table.BackingArray, Table.has_backing, declared.places.Place.Place}
use Rattle.best_fit.specs.Heap.{IsHeap, KeepsGaps, extent_at, has_room, live_of}
use Rattle.seg_types.specs.{declared.refusals.Refusal.Refusal, declared.refusals.Refusal.TheVariants.NoSpace}
use Rattle.seg_vector.specs.Vector.{IsContainerAt, capacity_for_one, grown_backing}

-- the offset of the three words
abbrev pub place_at : Place → ℕ
place_at p = p.handle + p.at

-- the length in the words of a container
abbrev pub len_at : List ℕ → Place → ℕ
len_at b p = word_at (bytes_of b) (place_at p + 8)

-- the capacity in the words of a container
abbrev pub capacity_at : List ℕ → Place → ℕ
capacity_at b p = word_at (bytes_of b) (place_at p + 16)

-- the storage is a block in use other than the block of the handle; or there is no storage
abbrev pub IsStorageBlock : LiveSet → ℕ → Option Extent → Type 0
IsStorageBlock live h None = ⊤
IsStorageBlock live h (Some x) = (extent_at live (handle x) ≡ Some x) × (handle x ≢ h)

-- a container of `len` elements of `each` bytes stands at a place
pub record IsContainer (b : List ℕ) (p : Place) (each len : ℕ) (t : BackingArray) (bytes : List ℕ) : Type 0 where
  pub heap : IsHeap current b
  pub words : IsContainerAt (bytes_of b) (place_at p) len t bytes
  pub aligned : p.at % 8 ≡ 0
  pub room : IsTrue (has_room (live_of b) p.handle (p.at + 24))
  pub table : IsTrue (has_backing Storage each t)
  pub fits : len ≤ t.capacity
  pub long : length bytes ≡ each * len
  pub own : IsStorageBlock (live_of b) p.handle t.extent

-- a container with elements of this length is at a place
abbrev pub IsStanding : List ℕ → Place → ℕ → Type 0
IsStanding b p each = (len : ℕ) × ((t : BackingArray) × ((bytes : List ℕ) × IsContainer b p each len t bytes))

-- the container has capacity n or more; of all blocks that stay, only its own 24 bytes change; no gap changes if its
-- storage stays in its block, and nothing changes if the capacity sufficed
pub record ReservesStorageOk (old new : WindowState) (p : Place) (each n len : ℕ) (t : BackingArray)
    (bytes : List ℕ) : Type 0 where
  pub table : BackingArray
  pub grown : grown_backing (live_of old.bytes) each n t ≡ Some table
  pub change : ExchangesBlocks current old new (place_at p) 24 (option_to_list t.extent) (option_to_list table.extent)
  pub gaps : t.extent ≡ table.extent → KeepsGaps old new
  pub stands : IsContainer new.bytes p each len table bytes
  pub enough : n ≤ t.capacity → new ≡ old

-- there is no space for this capacity, and nothing changes
pub record LacksSpace (old new : WindowState) (each n : ℕ) (t : BackingArray) (e : Refusal) : Type 0 where
  pub refusal : e ≡ NoSpace
  pub none : grown_backing (live_of old.bytes) each n t ≡ None
  pub same : new ≡ old

-- a container has capacity n or more, or there is no space and nothing changes
abbrev pub ReservesStorage : WindowState → WindowState → Place → ℕ → ℕ → Result (Unit {0}) Refusal → Type 0
ReservesStorage old new p each n result =
    (len : ℕ) (t : BackingArray) (bytes : List ℕ) → IsContainer old.bytes p each len t bytes
    → MatchResult result (λ u. ReservesStorageOk old new p each n len t bytes) (LacksSpace old new each n t)

-- the capacity suffices for one more element, or there is no space and nothing changes
abbrev pub GrowsForOne : WindowState → WindowState → Place → ℕ → Result (Unit {0}) Refusal → Type 0
GrowsForOne old new p each result =
    (len : ℕ) (t : BackingArray) (bytes : List ℕ) → IsContainer old.bytes p each len t bytes
    → let n = capacity_for_one len t.capacity in
    MatchResult result (λ u. ReservesStorageOk old new p each n len t bytes) (LacksSpace old new each n t)
