-- The nodes of a map that are listed, and the pairs that are read at them.
use Rattle.std.specs.Prelude.{◌≡◌, ℕ, ◌+◌, ◌*◌, ◌≤◌, Bool, not, Option, List, ◌++◌, length, take, drop, filter}
use Rattle.std.specs.Prelude.{min, Some, true}
use Rattle.std.specs.List.{AllByRecursion}
use Rattle.link_tree.specs.{Nodes.is_in, Tree.bits}
use Rattle.best_fit.specs.declared.places.Place.{Place}
use Rattle.seg_types.specs.declared.plain.Plain.{Ghosts as Plain}
use Rattle.seg_map.specs.Map.{Pair}
use Rattle.seg_map.specs.Places.{HoldsMap, is_passed, item_of, nodes_of_pairs, pair_node}

-- the pairs whose keys are not below the key, or above it if `past` is true
abbrev pub pairs_past : {K V : Type 0} → (K → K → Bool) → Bool → K → List (Pair K V) → List (Pair K V)
pairs_past less past key ps = filter (λ p. not (is_passed less past key p)) ps

-- the list with the nodes of these pairs in its first places
abbrev pub with_nodes : {K V : Type 0} → List (Pair K V) → List ℕ → List ℕ
with_nodes qs list = nodes_of_pairs qs ++ drop (length qs) list

-- the list has the nodes of the first pairs from a key on, or above it if `past` is true, as many as it has places for
abbrev pub ListsNodes : {K V : Type 0} → Plain K → Plain V → List ℕ → Place → Bool → K → List ℕ → List ℕ → ℕ → Type 0
ListsNodes {K} {V} k v b at past key list list' count =
    (ps : List (Pair K V)) → HoldsMap k v b at.handle at.at ps
    → (count ≡ min (length list) (length (pairs_past k.order past key ps)))
    × (list' ≡ with_nodes (take count (pairs_past k.order past key ps)) list)

-- the node is the node of a pair of the map
abbrev pub HasNode : {K V : Type 0} → Plain K → Plain V → List ℕ → Place → ℕ → Type 0
HasNode {K} {V} k v b at node =
    (ps : List (Pair K V)) × HoldsMap k v b at.handle at.at ps × (is_in node (nodes_of_pairs ps) ≡ true)

-- the result is the pair of the map that has the node
abbrev pub ReadsNode : {K V : Type 0} → Plain K → Plain V → List ℕ → Place → ℕ → Option (K × V) → Type 0
ReadsNode {K} {V} k v b at node r =
    (ps : List (Pair K V)) → HoldsMap k v b at.handle at.at ps
    → AllByRecursion (λ p. pair_node p ≡ node → r ≡ Some (item_of p)) ps

-- a step for each node that is listed, and for each node of two paths from the root
abbrev pub ListingSteps : {K V : Type 0} → Plain K → Plain V → List ℕ → Place → ℕ → ℕ → ℕ → Type 0
ListingSteps {K} {V} k v b at count before after = (ps : List (Pair K V)) → HoldsMap k v b at.handle at.at ps
    → after ≤ before + count + 4 * bits (length ps + 1)
