-- The removal of a node, as a function of trees.
use Rattle.std.specs.Prelude.{◌≡◌, ℕ, Bool, true, false, not, ◌==◌, Option, List, if◌then◌else◌}
use Rattle.link_tree.specs.Tree.{Cell, Tree, leaf, fork, nodes_of, IsTree, is_sorted}
use Rattle.link_tree.specs.Sides.{opposite, tree_on, joined_at}
use Rattle.link_tree.specs.Turning.{BecomesTree, painted, rebalanced, blackened, is_red_tree}
use Rattle.link_tree.specs.declared.cursor.Side.{Side}
use Rattle.link_tree.specs.declared.cursor.Side.TheVariants.{Left, Right}

-- a tree after a removal, and whether each of its paths has one black node fewer than before
pub record RemovedSubtree : Type 0 where
  pub tree : Tree
  pub fell : Bool

-- the link leads to this ordered tree
pub record IsOrderedTree (precedes : ℕ → ℕ → Bool) (cells : ℕ → Cell) (link : Option ℕ) (t : Tree) : Type 0 where
  pub tree : IsTree cells link t
  pub ordered : is_sorted precedes (nodes_of t) ≡ true

-- the link leads to the tree after the removal, and the cells of nodes outside the tree are unchanged
pub record RemovesTo (cells cells' : ℕ
    → Cell) (ns : List ℕ) (link : Option ℕ) (has_fallen : Bool) (rest : RemovedSubtree) : Type 0
  where
    pub turned : BecomesTree cells cells' ns link rest.tree
    pub fallen : has_fallen ≡ rest.fell

-- if the tree on the far side lost a black node, the near tree, which is heavier, gives up one, after Filliâtre
abbrev pub mended_at : Side → Bool → Tree → ℕ → Tree → RemovedSubtree
mended_at side red leaf n far = record { tree = joined_at side red leaf n far; fell = false }
mended_at side red (fork false left m right) n far =
    record { tree = rebalanced side (joined_at side false (fork true left m right) n far); fell = not red }
mended_at side red (fork true left m right) n far =
    record {
      tree = joined_at side false (tree_on side left right) m
          (rebalanced side (joined_at side red (painted true (tree_on (opposite side) left right)) n far));
      fell = false;
    }

-- a tree whose far side lost a black node, repaired
abbrev pub mended : Side → Tree → RemovedSubtree
mended side leaf = record { tree = leaf; fell = false }
mended side (fork red left n right) = mended_at side red (tree_on side left right) n
    (tree_on (opposite side) left right)

-- a node over a changed subtree on this side, rebalanced
abbrev pub settled : Side → Bool → RemovedSubtree → ℕ → Tree → RemovedSubtree
settled side red rest n far =
    if rest.fell then mended_at (opposite side) red far n rest.tree else record
    { tree = joined_at side red rest.tree n far; fell = false }

-- a tree that replaces its parent, which had no other subtree
abbrev pub sunk : Bool → Tree → RemovedSubtree
sunk red t =
    if red then record { tree = t; fell = false }
    else (if is_red_tree t then record { tree = blackened t; fell = false } else record { tree = t; fell = true })

-- the first node of a tree, or another one if there is no node
abbrev pub least_of : ℕ → Tree → ℕ
least_of other leaf = other
least_of other (fork red left n right) = least_of n left

-- the tree without its first node
abbrev pub without_least : Tree → RemovedSubtree
without_least leaf = record { tree = leaf; fell = false }
without_least (fork red leaf n right) = sunk red right
without_least (fork red (fork red' left m middle) n right) = settled Left red (without_least (fork red' left m middle))
    n right

-- the tree without its root, whose place the next node takes
abbrev pub without_root : Bool → Tree → Tree → RemovedSubtree
without_root red left leaf = sunk red left
without_root red left (fork red' middle n right) =
    settled Right red (without_least (fork red' middle n right)) (least_of n middle) left

-- a tree without its root
abbrev pub uprooted : Tree → RemovedSubtree
uprooted leaf = record { tree = leaf; fell = false }
uprooted (fork red left n right) = without_root red left right

-- the tree without the node
abbrev pub after_remove : (ℕ → ℕ → Bool) → ℕ → Tree → RemovedSubtree
after_remove precedes x leaf = record { tree = leaf; fell = false }
after_remove precedes x (fork red left n right) =
    if n == x then without_root red left right
    else (if precedes x n then settled Left red (after_remove precedes x left) n right else settled Right red
    (after_remove precedes x right) n left)

-- the steps that remain for the repair while a tree lacks a black node
abbrev pub spare : Bool → ℕ
spare fell = if fell then 7 else 0
