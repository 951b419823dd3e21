-- The insertion of a node, as a function of trees.
use Rattle.std.specs.Prelude.{◌≡◌, ℕ, Bool, true, Option}
use Rattle.link_tree.specs.Tree.{Cell, Tree, leaf, fork, nodes_of, IsTree, is_sorted}
use Rattle.link_tree.specs.Nodes.{is_ordered_with}
use Rattle.link_tree.specs.Sides.{opposite, tree_on, joined_at, side_of}
use Rattle.link_tree.specs.Turning.{rebalanced}
use Rattle.link_tree.specs.declared.cursor.Side.{Side}

-- the link leads to this ordered tree, and the node precedes or follows each of its nodes
pub record CanInsert (precedes : ℕ → ℕ → Bool) (cells : ℕ → Cell) (link : Option ℕ) (n : ℕ) (t : Tree) : Type 0 where
  pub tree : IsTree cells link t
  pub ordered : is_sorted precedes (nodes_of t) ≡ true
  pub placed : is_ordered_with precedes n (nodes_of t) ≡ true

abbrev pub grown_at : Side → Bool → Tree → Tree → Tree → ℕ → Tree → Tree
grown_at side red left left' right n right' =
    rebalanced side (joined_at side red (tree_on side left' right') n (tree_on (opposite side) left right))

-- the tree with the node inserted, red, and each node on the path to it rebalanced
abbrev pub after_insert : (ℕ → ℕ → Bool) → ℕ → Tree → Tree
after_insert precedes x leaf = fork true leaf x leaf
after_insert precedes x (fork red left n right) =
    grown_at (side_of (precedes x n)) red left (after_insert precedes x left) right n (after_insert precedes x right)
