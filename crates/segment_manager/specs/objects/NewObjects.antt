-- The construction of an object: its blocks are allocated and written, and then an entry leads to it.
use Rattle.seg_types.specs.Names as names
use Rattle.std.specs.Prelude.{◌≡◌, ℕ, ◌≤◌, ◌⊎◌, Option, None, Result, MatchResult, List, [], IsTrue, ⊤}
use Rattle.raw_region.specs.{Format.current, Memory.WindowState}
use Rattle.block_tags.specs.declared.tile.Role.TheVariants.{Object as ObjectRole, Index as IndexRole}
use Rattle.best_fit.specs.{Fit.place, Heap.AllocatesOk, Heap.KeepsBlocks, Heap.EncodesLiveSet, Heap.live_of}
use Rattle.seg_types.specs.{declared.kinds.ScalarKind.ScalarKind, declared.kinds.Kind.Kind}
use Rattle.seg_types.specs.{declared.kinds.Kind.TheVariants.Scalar, Kinds.code_of, Names.is_name}
use Rattle.seg_index.specs.{declared.index.Index.Index, declared.keys.Entry.Entry, Growth.PreparesOk}
use Rattle.seg_index.specs.{Growth.grown_bytes}
use Rattle.seg_index.specs.declared.index.Index.TheVariants.{Named, Unique}
use Rattle.seg_index.specs.declared.keys.Entry.TheVariants.{Name, Code}
use Rattle.seg_index.specs.Held.{capacity_at, entry_count}
use Rattle.segment_manager.specs.declared.objects.pending_object.Requested.{Requested}

-- ---- allocations

-- a larger block for the index if it is full, and a block of n bytes for the object
pub record RequestsBlocksOk (old new : WindowState) (at n : ℕ) (growth : Option ℕ) (h : ℕ) : Type 0 where
  pub between : WindowState
  pub grows : PreparesOk old between at growth
  pub takes : AllocatesOk current between new n ObjectRole h

-- the index is full and no gap fits its new block, or no gap fits the object's block
abbrev pub FindsNone : WindowState → ℕ → ℕ → Type 0
FindsNone old at n =
    ((capacity_at old at ≤ entry_count old at) × (place (live_of old.bytes) (grown_bytes old at) IndexRole ≡ None))
    ⊎ ((growth : Option ℕ) × (between : WindowState) × PreparesOk old between at growth
    × (place (live_of between.bytes) n ObjectRole ≡ None))

-- the same blocks are in use, with the same bytes
pub record RestoresBlocks (old new : WindowState) : Type 0 where
  pub laid : EncodesLiveSet current new.bytes (live_of old.bytes)
  pub keeps : KeepsBlocks old new (live_of old.bytes).extents

-- the larger block of the index or the object's block has no fit, and all blocks are unchanged
pub record RequestsBlocksErr (old new : WindowState) (at n : ℕ) : Type 0 where
  pub restored : RestoresBlocks old new
  pub none : FindsNone old at n

-- the blocks for a new object are allocated, or there is no space and all blocks are unchanged
abbrev pub Requests : {E : Type 0} → WindowState → WindowState → ℕ → ℕ → Result Requested E → Type 0
Requests old new at n result =
    MatchResult result (λ r. RequestsBlocksOk old new at n r.growth.block r.handle) (λ e.
    RequestsBlocksErr old new at n)

-- ---- keys of new objects

-- the key under which an object of a kind gets its entry: its name, or its kind
abbrev pub IsNewKeyOf : Index → Entry → names.Key → List ℕ → Kind → Type 0
IsNewKeyOf Named (Name s) (names.ByName n) name kind = (s.now ≡ n) × (name ≡ n) × IsTrue (is_name current n)
IsNewKeyOf Unique (Code c) (names.ByKind u) name kind = (c ≡ code_of u) × (name ≡ []) × (u ≡ kind)
IsNewKeyOf i e key name kind = ⊥

-- a key with a kind has this kind, and the key is no handle
abbrev pub IsOfKind : names.Key → Kind → Type 0
IsOfKind (names.ByName name) kind = ⊤
IsOfKind (names.ByKind u) kind = u ≡ kind
IsOfKind (names.ByHandle h) kind = ⊥
IsOfKind names.NoKey kind = ⊤

-- a key suits an array of numbers of the kind
abbrev pub IsOfItsKind : names.Key → ScalarKind → Type 0
IsOfItsKind key k = IsOfKind key (Scalar k)
