-- A map at a place in a block of a heap.
use Rattle.std.specs.Prelude.{◌≡◌, ◌≢◌, ℕ, ◌+◌, ◌*◌, ◌%◌, ◌≤◌, Bool, true, not, Option, Some, None, List, find, map}
use Rattle.std.specs.Prelude.{option_map, length, reverse, if◌then◌else◌, IsTrue}
use Rattle.std.specs.List.{AllByRecursion, last_or}
use Rattle.raw_region.specs.{Format.current, Memory.bytes_of}
use Rattle.link_tree.specs.Tree.{bits}
use Rattle.best_fit.specs.{Extents.LiveSet, Extents.handle, Heap.IsHeap, Heap.extent_at, Heap.has_room, Heap.live_of}
use Rattle.seg_types.specs.declared.plain.Plain.{Ghosts as Plain}
use Rattle.best_fit.specs.declared.places.Place.{Place}
use Rattle.seg_map.specs.Map.{Pair, IsMapAt, is_pair, is_rising, pair_at}

abbrev pub pair_node : {K V : Type 0} → Pair K V → ℕ
pair_node p = handle p.node

abbrev pub nodes_of_pairs : {K V : Type 0} → List (Pair K V) → List ℕ
nodes_of_pairs ps = map (λ p. handle p.node) ps

-- a pair whose node is a block in use other than the block of the handle
pub record IsPairIn {K V : Type 0} (k : Plain K) (v : Plain V) (live : LiveSet) (h : ℕ) (p : Pair K V) : Type 0 where
  pub good : is_pair k.SIZE v.SIZE k.is_value v.is_value p ≡ true
  pub listed : extent_at live (handle p.node) ≡ Some p.node
  pub apart : handle p.node ≢ h

-- the map at an offset in the block of a handle has these pairs
pub record HoldsMap {K V : Type 0} (k : Plain K) (v : Plain V) (b : List ℕ) (h at : ℕ)
    (ps : List (Pair K V)) : Type 0 where
  pub heap : IsHeap current b
  pub map : IsMapAt k.SIZE k.spelling v.spelling (bytes_of b) (h + at) ps
  pub aligned : at % 8 ≡ 0
  pub room : IsTrue (has_room (live_of b) h (at + 24))
  pub rising : is_rising k.order ps ≡ true
  pub pairs : AllByRecursion (IsPairIn k v (live_of b) h) ps

-- a map of two plain types is at a place
abbrev pub IsSomeMap : {K V : Type 0} → Plain K → Plain V → List ℕ → ℕ → ℕ → Type 0
IsSomeMap {K} {V} k v b h at = (ps : List (Pair K V)) × HoldsMap k v b h at ps

-- ---- searches by key

-- whether the pair's key is below the key, or not above it if `past` is true
abbrev pub is_passed : {K V : Type 0} → (K → K → Bool) → Bool → K → Pair K V → Bool
is_passed less past key p = if past then not (less key p.key) else less p.key key

-- the first pair whose key is not below the key, or is above it if `past` is true
abbrev pub first_pair : {K V : Type 0} → (K → K → Bool) → Bool → K → List (Pair K V) → Option (Pair K V)
first_pair less past key ps = find (λ p. not (is_passed less past key p)) ps

-- the last pair whose key is below the key, or not above it if `past` is true
abbrev pub last_pair : {K V : Type 0} → (K → K → Bool) → Bool → K → List (Pair K V) → Option (Pair K V)
last_pair less past key ps = find (is_passed less past key) (reverse ps)

-- the last pair of the list
abbrev pub final_pair : {K V : Type 0} → List (Pair K V) → Option (Pair K V)
final_pair ps = last_or None ps

-- a pair as the result of a call
abbrev pub item_of : {K V : Type 0} → Pair K V → K × V
item_of p = (p.key, p.value)

abbrev pub value_of_pair : {K V : Type 0} → Pair K V → V
value_of_pair p = p.value

-- the result is the first pair whose key is not below a key, or is above it if `past` is true
abbrev pub FindsItem : {K V : Type 0} → Plain K → Plain V → List ℕ → ℕ → ℕ → Bool → K → Option (K × V) → Type 0
FindsItem {K} {V} k v b h at past key r = (ps : List (Pair K V)) → HoldsMap k v b h at ps
    → r ≡ option_map item_of (first_pair k.order past key ps)

-- the result is the last pair before the probe
abbrev pub FindsItemBefore : {K V : Type 0} → Plain K → Plain V → List ℕ → ℕ → ℕ → Bool → K → Option (K × V) → Type 0
FindsItemBefore {K} {V} k v b h at past key r = (ps : List (Pair K V)) → HoldsMap k v b h at ps
    → r ≡ option_map item_of (last_pair k.order past key ps)

-- the result is the last pair of a map
abbrev pub FindsLastItem : {K V : Type 0} → Plain K → Plain V → List ℕ → ℕ → ℕ → Option (K × V) → Type 0
FindsLastItem {K} {V} k v b h at r = (ps : List (Pair K V)) → HoldsMap k v b h at ps
    → r ≡ option_map item_of (final_pair ps)

-- the result is the value of a key, or none if the map lacks the key
abbrev pub FindsValue : {K V : Type 0} → Plain K → Plain V → List ℕ → ℕ → ℕ → K → Option V → Type 0
FindsValue {K} {V} k v b h at key r = (ps : List (Pair K V)) → HoldsMap k v b h at ps
    → r ≡ option_map value_of_pair (pair_at k.order ps key)

-- the result is the node of a key, or none if the map lacks the key
abbrev pub FindsKey : {K V : Type 0} → Plain K → Plain V → List ℕ → ℕ → ℕ → K → Option ℕ → Type 0
FindsKey {K} {V} k v b h at key r = (ps : List (Pair K V)) → HoldsMap k v b h at ps
    → r ≡ option_map pair_node (pair_at k.order ps key)

-- no pair of the map has the key
abbrev pub IsNewKey : {K V : Type 0} → Plain K → Plain V → List ℕ → ℕ → ℕ → K → Type 0
IsNewKey {K} {V} k v b h at key = (ps : List (Pair K V)) → HoldsMap k v b h at ps → pair_at k.order ps key ≡ None

-- the steps of a search, at most `2 * bits (pairs + 1)`, and n more
abbrev pub SearchSteps : {K V : Type 0} → Plain K → Plain V → List ℕ → Place → ℕ → ℕ → ℕ → Type 0
SearchSteps {K} {V} k v b at more before after = (ps : List (Pair K V)) → HoldsMap k v b at.handle at.at ps
    → after ≤ before + 2 * bits (length ps + 1) + more
