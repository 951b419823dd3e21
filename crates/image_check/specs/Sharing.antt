-- The check enters those links of an image that count, value by value. These records say what it has entered.
use Rattle.std.specs.Prelude.{◌≡◌, ◌≢◌, ℕ, ◌+◌, ◌*◌, ◌/◌, ◌%◌, ◌≤◌, ◌<◌, ◌⊎◌, Bool, true, false, IsTrue, Contains}
use Rattle.std.specs.Prelude.{Some, None, List, length, Result, MatchResult, ◌==◌, if◌then◌else◌}
use Rattle.raw_region.specs.Memory.{Memory, bytes_of, word_at}
use Rattle.offset_link.specs.Link.{link_at}
use Rattle.block_tags.specs.declared.tile.Role.TheVariants.{Object, Index, Storage, Node}
use Rattle.block_tags.specs.declared.tile.Tile.{Tile}
use Rattle.seg_types.specs.declared.kinds.ScalarKind.{ScalarKind}
use Rattle.seg_types.specs.declared.kinds.Kind.{Kind}
use Rattle.seg_types.specs.declared.kinds.Kind.TheVariants.{Scalar, Map, Strings}
use Rattle.image_check.specs.declared.owners.Owner.{Owner}
use Rattle.image_check.specs.declared.owners.Owners.{Owners}
use Rattle.image_check.specs.ObjectTests.{good_for, index_capacity, is_use, kind_at, payload, tile_of, value_offset}
use Rattle.image_check.specs.Fields.{has_storage, values}
use Rattle.image_check.specs.Owners.{Blocks, IsMarkingOf, IsMarkedLink, IsStart, KeepsMarks, MayCount, OwnerState}
use Rattle.image_check.specs.Owners.{owner_at, visits_due}
use Rattle.image_check.specs.Passes.{tiles_in}
use Rattle.image_check.specs.Visits.{Rates}

-- the pass entered only links at offsets with the property `At`, and all links entered before stay
pub record MarksLinks (format : ℕ) (b : List ℕ) (At : ℕ → Type 0) (old s : OwnerState) : Type 0 where
  pub marking : IsMarkingOf format b s
  pub keeps : KeepsMarks old s
  pub only : (n : ℕ) (o : Owner) → owner_at s.entries n ≡ Some o → (owner_at old.entries n ≡ Some o) ⊎ At o.at
  pub less : visits_due s ≤ visits_due old

-- the state of the owners
abbrev pub state_of : Owners → OwnerState
state_of o = record { entries = o.blocks.entries; pending = o.pending; waiting = o.waiting }

-- a pass makes at most `n` visits, plus those due before it, minus those due after it
abbrev pub Pays : {A E : Type 0} → ℕ → Result A E → ℕ → OwnerState → ℕ → OwnerState → Type 0
Pays n result old was new s = (old ≤ new) × MatchResult result
    (λ done. new + visits_due s ≤ old + (visits_due was + n)) (λ class. new ≤ old + (visits_due was + n))

-- ---- one link

-- the link of an index is entered, if its capacity is not 0
pub record IsIndexNoted (format : ℕ) (b : List ℕ) (at : ℕ) (old s : OwnerState) : Type 0 where
  pub grown : MarksLinks format b (λ p. p ≡ at) old s
  pub noted : 0 < index_capacity (bytes_of b) at → IsMarkedLink (bytes_of b) (tiles_in b) s.entries Index at at

-- the links of both indexes are entered, and no others
pub record AreIndexesNoted (format : ℕ) (b : List ℕ) (s : OwnerState) : Type 0 where
  pub marking : IsMarkingOf format b s
  pub named : 0 < index_capacity (bytes_of b) 32 → IsMarkedLink (bytes_of b) (tiles_in b) s.entries Index 32 32
  pub unique : 0 < index_capacity (bytes_of b) 56 → IsMarkedLink (bytes_of b) (tiles_in b) s.entries Index 56 56
  pub front : (n : ℕ) (o : Owner) → owner_at s.entries n ≡ Some o → o.at < 128

-- the storage link of a value is entered, if its capacity is not 0
pub record IsStorageNoted (format : ℕ) (b : List ℕ) (at : ℕ) (old s : OwnerState) : Type 0 where
  pub grown : MarksLinks format b (λ p. p ≡ at) old s
  pub noted : 0 < word_at (bytes_of b) (at + 16) → IsMarkedLink (bytes_of b) (tiles_in b) s.entries Storage at at
  pub paid : 0 < word_at (bytes_of b) (at + 16) → (target : ℕ) (t : Tile) → link_at (bytes_of b) at ≡ Some target
      → tile_of (tiles_in b) Storage target ≡ Some t → owner_at old.entries target ≡ None
      → visits_due s + 3 * (t.len / 16) ≤ visits_due old

-- ---- elements

-- the offset of one of the first n elements of an array
abbrev pub IsElementOffset : ℕ → ℕ → ℕ → Type 0
IsElementOffset array n p = (i : ℕ) × (i < n) × (p ≡ array + 16 * i)

-- the links of the first n elements of an array are entered
pub record AreElementsNoted (format : ℕ) (b : List ℕ) (array n : ℕ) (old s : OwnerState) : Type 0 where
  pub grown : MarksLinks format b (IsElementOffset array n) old s
  pub noted : (i : ℕ) → i < n
      → IsMarkedLink (bytes_of b) (tiles_in b) s.entries Storage (array + 16 * i) (array + 16 * i)

-- the offset is not in a node, and a link at the offset counts if it leads to storage
abbrev pub IsStorageStart : ℕ → List ℕ → ℕ → Type 0
IsStorageStart format b at = IsStart (tiles_in b) at × MayCount format (bytes_of b) (tiles_in b) Storage at

-- an offset in the payload of a storage
pub record IsInStorage (ts : List Tile) (p : ℕ) : Type 0 where
  pub start : ℕ
  pub tile : Tile
  pub is : tile_of ts Storage start ≡ Some tile
  pub from : start ≤ p
  pub to : p + 16 < start + tile.len

-- a property of each element of the array of a value
abbrev pub AllElements : Memory → List Tile → ℕ → (ℕ → Type 0) → Type 0
AllElements m ts at Is = (array : Tile) (i : ℕ) → 0 < word_at m (at + 16)
    → good_for ts Storage (link_at m at) ≡ Some array → i < word_at m (at + 8) → 16 * i + 32 ≤ array.len
    → Is (payload array + 16 * i)

-- the links of the elements of a vector of texts are entered
pub record AreTextsNoted (format : ℕ) (b : List ℕ) (at : ℕ) (old s : OwnerState) : Type 0 where
  pub grown : MarksLinks format b (IsInStorage (tiles_in b)) old s
  pub noted : AllElements (bytes_of b) (tiles_in b) at (λ p.
      IsMarkedLink (bytes_of b) (tiles_in b) s.entries Storage p p)

-- the visits of the elements of an array
abbrev pub array_cost : Memory → List Tile → ℕ → ℕ
array_cost m ts at = if word_at m (at + 16) == 0 then 0 else elim (good_for ts Storage (link_at m at)) [
  | None ↦ 0
  | Some t ↦ 3 * (t.len / 16)
]

-- ---- values

abbrev pub has_link : Kind → Bool
has_link (Scalar k) = false
has_link k = true

-- the links behind a value are entered, except links in nodes
pub record IsValueNoted (m : Memory) (ts : List Tile) (kind : Kind) (at : ℕ) (es : Blocks) : Type 0 where
  pub storage : IsTrue (has_storage kind) → 0 < word_at m (at + 16) → IsMarkedLink m ts es Storage at at
  pub element : kind ≡ Strings → AllElements m ts at (λ p. IsMarkedLink m ts es Storage p p)
  pub root : (k v : ScalarKind) → kind ≡ Map k v → IsMarkedLink m ts es Node at at

-- the pass can enter the value: it is a value of the image, and its own link is not yet entered
pub record IsValueReady (format : ℕ) (b : List ℕ) (kind : Kind) (at : ℕ) (es : Blocks) : Type 0 where
  pub value : Contains (values format (bytes_of b) (tiles_in b)) (kind, at)
  pub inside : IsTrue (has_link kind) → at + 24 ≤ length b
  pub aligned : at % 8 ≡ 0
  pub start : IsTrue (has_link kind) → IsStart (tiles_in b) at
  pub fresh : IsTrue (has_link kind) → (n : ℕ) (o : Owner) → owner_at es n ≡ Some o → o.at ≢ at
  pub elements : kind ≡ Strings → AllElements (bytes_of b) (tiles_in b) at (IsStorageStart format b)

-- the links of a value are entered, and otherwise only links in storages
pub record IsValueGrown (format : ℕ) (b : List ℕ) (kind : Kind) (at : ℕ) (old s : OwnerState) : Type 0 where
  pub grown : MarksLinks format b (λ p. (IsTrue (has_link kind) × (p ≡ at)) ⊎ IsInStorage (tiles_in b) p) old s
  pub noted : IsValueNoted (bytes_of b) (tiles_in b) kind at s.entries

-- ---- objects

-- a property of the value of the object in a tile, if the tile holds one
abbrev pub OfObject : ℕ → Memory → Tile → (Kind → ℕ → Type 0) → Type 0
OfObject format m t Is = (kind : Kind) → IsTrue (is_use Object t) → kind_at format m (payload t) ≡ Some kind
    → Is kind (value_offset m (payload t))

-- the offset of the link of the object in a tile
pub record IsLinkOf (format : ℕ) (m : Memory) (t : Tile) (p : ℕ) : Type 0 where
  pub kind : Kind
  pub object : IsTrue (is_use Object t)
  pub is : kind_at format m (payload t) ≡ Some kind
  pub link : IsTrue (has_link kind)
  pub place : p ≡ value_offset m (payload t)

-- the offset is the offset of the link of the tile's object, or is in a storage
abbrev pub IsLinkOffset : ℕ → Memory → List Tile → Tile → ℕ → Type 0
IsLinkOffset format m ts t p = IsLinkOf format m t p ⊎ IsInStorage ts p

-- the links of a tile's object are entered
pub record IsTileGrown (format : ℕ) (b : List ℕ) (t : Tile) (old s : OwnerState) : Type 0 where
  pub grown : MarksLinks format b (IsLinkOffset format (bytes_of b) (tiles_in b) t) old s
  pub noted : OfObject format (bytes_of b) t (λ kind at. IsValueNoted (bytes_of b) (tiles_in b) kind at s.entries)

-- the links behind all values are entered, except links in nodes
pub record EntersValues (format : ℕ) (b : List ℕ) (old s : OwnerState) : Type 0 where
  pub marking : IsMarkingOf format b s
  pub keeps : KeepsMarks old s
  pub noted : (kind : Kind) (at : ℕ) → Contains (values format (bytes_of b) (tiles_in b)) (kind, at)
      → IsValueNoted (bytes_of b) (tiles_in b) kind at s.entries

-- the visits of an object, without the visits of its elements
abbrev pub object_cost : Tile → ℕ
object_cost t = if is_use Object t then 4 else 0

-- the visits of the walk over the tiles
abbrev pub value_rates : Rates
value_rates = record { free = 1; object = 3; index = 1; storage = 1; node = 1 }
