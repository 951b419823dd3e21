-- Nodes that are linked into the tree of a map, or unlinked from it.
use Rattle.std.specs.Prelude.{◌≡◌, ℕ, ◌+◌, ◌*◌, ◌≤◌, true, Option, List, length}
use Rattle.raw_region.specs.Memory.{WindowState}
use Rattle.link_tree.specs.{Nodes.leads, Tree.Tree, Tree.IsSearchTree, Tree.bits, Tree.nodes_of}
use Rattle.seg_types.specs.{declared.plain.Plain.Ghosts as Plain, Plain.value_in}
use Rattle.seg_map.specs.PairNodes.{comes_before, is_pair_node, kept_of, key_of, pair_cells}

-- the keys of nodes
abbrev pub keys_in : {K : Type 0} → Plain K → List ℕ → WindowState → ℕ → Option K
keys_in k ns c = key_of (value_in k.reading k.is_value k.spelling) k.SIZE ns c

-- a link leads to a tree of nodes in the order of their keys
pub record IsKeyTree {K : Type 0} (k : Plain K) (ns : List ℕ) (c : WindowState) (root : Option ℕ) (t : Tree) : Type
    0 where
  pub tree : IsSearchTree (comes_before k.order (keys_in k ns c)) (pair_cells (16 + k.SIZE) ns c) root t
  pub leads : leads (is_pair_node (16 + k.SIZE) ns c) root ≡ true

-- there is a tree of keys, as a search requires it
abbrev pub HasKeyTree : {K : Type 0} → Plain K → List ℕ → WindowState → Option ℕ → Type 0
HasKeyTree k ns c root =
    (t : Tree) × IsSearchTree (comes_before k.order (keys_in k ns c)) (pair_cells (16 + k.SIZE) ns c) root t

-- a link leads to a tree that now has these nodes; only links and colours of the nodes change, in this many steps for
-- each bit of their number
pub record Relinked {K : Type 0} (k : Plain K) (ns : List ℕ) (old new : WindowState) (root top : Option ℕ)
    (becomes : List ℕ → List ℕ) (factor steps : ℕ) : Type 0 where
  pub kept : kept_of ns new ≡ kept_of ns old
  pub tree : (t : Tree) → IsKeyTree k ns old root t → (s : Tree) × IsKeyTree k ns new top s
      × (nodes_of s ≡ becomes (nodes_of t))
  pub few : (t : Tree) → IsKeyTree k ns old root t → steps ≤ factor * bits (length (nodes_of t) + 1) + 32
