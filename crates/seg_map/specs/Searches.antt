-- The steps of a search in a map: the number of nodes on its path from the root.
use Rattle.std.specs.Prelude.{◌≡◌, ℕ, ◌+◌, ◌≤◌, Bool, true, false, Option, Some, None, List, IfSome, IsTrue}
use Rattle.std.specs.{Prelude.if◌then◌else◌, Prelude.option_and_then, Prelude.option_map, List.AllByRecursion}
use Rattle.raw_region.specs.Memory.{WindowState, Memory, bytes_of, read}
use Rattle.link_tree.specs.{Searching.path_length, Tree.Tree, Tree.nodes_of, Ways.EndsPath, Ways.insert_point_of}
use Rattle.link_tree.specs.{Ways.remove_point_of}
use Rattle.best_fit.specs.{Heap.has_room, Heap.live_of, declared.places.Place.Place}
use Rattle.seg_types.specs.{declared.plain.Plain.Ghosts as Plain, Plain.value_in}
use Rattle.seg_map.specs.{Linking.IsKeyTree, Linking.keys_in, Map.Pair}
use Rattle.seg_map.specs.PairNodes.{both, comes_before, is_pair_node, pair_cells, stands_before}
use Rattle.seg_map.specs.Places.{FindsKey, HoldsMap, SearchSteps, final_pair, first_pair, item_of, last_pair, pair_node}

-- the number of nodes that a search visits for the first pair whose key is not below a key, or is above it
abbrev pub path_in : {K : Type 0} → Plain K → WindowState → Bool → K → Tree → ℕ
path_in k c past key t = path_length (stands_before k.order (keys_in k (nodes_of t) c) past key) t

-- one step if a pair was found, for reading it
abbrev pub reading_steps : {A : Type 0} → Option A → ℕ
reading_steps None = 0
reading_steps (Some x) = 1

-- a look-up takes the steps of a search, and one more if it finds a pair
abbrev pub LookupSteps : {K V : Type 0} → Plain K → Plain V → WindowState → Place → Bool → K → ℕ → ℕ → Type 0
LookupSteps {K} {V} k v c at past key before after =
    (ps : List (Pair K V)) (s : HoldsMap k v c.bytes at.handle at.at ps)
    → after ≡ before + path_in k c past key s.map.tree.tree + reading_steps (first_pair k.order past key ps)

-- a call that first looks a key up takes the steps of the look-up, and at least this many more
abbrev pub LooksUpFirst : {K V : Type 0} → Plain K → Plain V → WindowState → Place → K → ℕ → ℕ → ℕ → Type 0
LooksUpFirst {K} {V} k v c at key more before after =
    (ps : List (Pair K V)) (s : HoldsMap k v c.bytes at.handle at.at ps)
    → before + path_in k c false key s.map.tree.tree + reading_steps (first_pair k.order false key ps) + more ≤ after

-- the law: a search backwards takes the path of the look-up of its key
abbrev pub LookBackTakes : {K V : Type 0} → Plain K → Plain V → WindowState → Place → Bool → K → ℕ → ℕ → Type 0
LookBackTakes {K} {V} k v c at past key before after =
    (ps : List (Pair K V)) (s : HoldsMap k v c.bytes at.handle at.at ps)
    → after ≡ before + path_in k c past key s.map.tree.tree + reading_steps (last_pair k.order past key ps)

-- the number of nodes on the path to the last pair, which goes right at each node
abbrev pub last_path : Tree → ℕ
last_path t = path_length (λ n. true) t

-- a search for the last pair takes exactly these steps
abbrev pub LastTakes : {K V : Type 0} → Plain K → Plain V → WindowState → Place → ℕ → ℕ → Type 0
LastTakes {K} {V} k v c at before after =
    (ps : List (Pair K V)) (s : HoldsMap k v c.bytes at.handle at.at ps) → after ≡ before + last_path s.map.tree.tree
    + reading_steps (final_pair ps)

-- ---- the pair at the end of a search

-- the key and the value that the bytes of a node encode, or none
abbrev pub item_at : {K V : Type 0} → Plain K → Plain V → Memory → ℕ → Option (K × V)
item_at k v m n =
    both (value_in k.reading k.is_value k.spelling (read m (n + 16) k.SIZE))
    (value_in v.reading v.is_value v.spelling (read m (n + (16 + k.SIZE)) v.SIZE))

-- the node, if its key is at most the given key
abbrev pub node_with : {K : Type 0} → Plain K → Memory → K → ℕ → Option ℕ
node_with k m key n =
    option_and_then (λ x. if k.order key x then None else Some n)
    (value_in k.reading k.is_value k.spelling (read m (n + 16) k.SIZE))

-- the node of a pair has its key, and is read as its key and value
pub record IsRead {K V : Type 0} (k : Plain K) (v : Plain V) (c : WindowState) (keys : ℕ
    → Option K) (p : Pair K V) : Type 0
  where
    pub key : keys (pair_node p) ≡ Some p.key
    pub item : item_at k v (bytes_of c.bytes) (pair_node p) ≡ Some (item_of p)
    pub room : IsTrue (has_room (live_of c.bytes) (pair_node p) (16 + k.SIZE + v.SIZE))

-- the nodes of a search are the nodes of the map, with its tree and its pairs
pub record OpensPairTree {K V : Type 0} (k : Plain K) (v : Plain V) (now c : WindowState) (at : Place) (own : List ℕ)
    (root : Option ℕ) : Type 0 where
  pub same : now ≡ c
  pub nodes : (ps : List (Pair K V)) (s : HoldsMap k v c.bytes at.handle at.at ps) → own ≡ nodes_of s.map.tree.tree
  pub tree : (ps : List (Pair K V)) (s : HoldsMap k v c.bytes at.handle at.at ps)
      → IsKeyTree k own now root s.map.tree.tree
  pub pairs : (ps : List (Pair K V)) → HoldsMap k v c.bytes at.handle at.at ps
      → AllByRecursion (IsRead k v c (keys_in k own now)) ps

-- the key and the value of the result, and the steps of the path to it
pub record LooksUp {K V : Type 0} (k : Plain K) (v : Plain V) (c : WindowState) (at : Place)
    (pair : List (Pair K V) → Option (Pair K V)) (path : Tree → ℕ) (result : Option (K × V)) (before after : ℕ) : Type 0
  where
    pub item : (ps : List (Pair K V)) → HoldsMap k v c.bytes at.handle at.at ps → result ≡ option_map item_of (pair ps)
    pub counted : before ≤ after
    pub steps : SearchSteps k v c.bytes at 1 before after
    pub exact : (ps : List (Pair K V)) (s : HoldsMap k v c.bytes at.handle at.at ps)
        → after ≡ before + path s.map.tree.tree + reading_steps (pair ps)

-- the node of a key, and the steps of a look-up
pub record LooksFor {K V : Type 0} (k : Plain K) (v : Plain V) (c : WindowState) (at : Place) (key : K)
    (found : Option ℕ) (before after : ℕ) : Type 0 where
  pub node : FindsKey k v c.bytes at.handle at.at key found
  pub counted : before ≤ after
  pub steps : SearchSteps k v c.bytes at 1 before after
  pub exact : LookupSteps k v c at false key before after

-- ---- where a change of the tree begins

-- the search for a key among these nodes ends at this one
abbrev pub EndsPathOf : {K : Type 0} → Plain K → List ℕ → WindowState → K → Tree → Option ℕ → Type 0
EndsPathOf k ns c key t last =
    EndsPath (is_pair_node (16 + k.SIZE) ns c) (pair_cells (16 + k.SIZE) ns c)
    (stands_before k.order (keys_in k ns c) false key) t last

-- where the insertion of a node at the end of the search for a key begins
abbrev pub entry_in : {K : Type 0} → Plain K → WindowState → K → Tree → Option ℕ
entry_in k c key t = insert_point_of (stands_before k.order (keys_in k (nodes_of t) c) false key) t

-- where the removal of the node of a key begins
abbrev pub exit_in : {K : Type 0} → Plain K → WindowState → ℕ → Tree → Option ℕ
exit_in k c node t = remove_point_of (comes_before k.order (keys_in k (nodes_of t) c)) node t

-- a search has found the node from which an insertion changes the tree of a map
abbrev pub FindsEntry : {K V : Type 0} → Plain K → Plain V → WindowState → Place → K → Option ℕ → Type 0
FindsEntry {K} {V} k v c at key start =
    (ps : List (Pair K V)) (s : HoldsMap k v c.bytes at.handle at.at ps) → start ≡ entry_in k c key s.map.tree.tree

-- a search has found the node from which a removal changes the tree of a map
abbrev pub FindsExit : {K V : Type 0} → Plain K → Plain V → WindowState → Place → Option ℕ → Option ℕ → Type 0
FindsExit {K} {V} k v c at node start =
    (ps : List (Pair K V)) (s : HoldsMap k v c.bytes at.handle at.at ps)
    → IfSome node (λ n. start ≡ exit_in k c n s.map.tree.tree)

-- the search for a key ends its path at this node; none if the map is empty
abbrev pub EndsSearch : {K V : Type 0} → Plain K → Plain V → WindowState → Place → K → Option ℕ → Type 0
EndsSearch {K} {V} k v c at key last =
    (ps : List (Pair K V)) (s : HoldsMap k v c.bytes at.handle at.at ps)
    → EndsPathOf k (nodes_of s.map.tree.tree) c key s.map.tree.tree last
