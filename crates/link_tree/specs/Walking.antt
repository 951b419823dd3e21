-- A walk over the nodes of a tree in order.
use Rattle.std.specs.Prelude.{◌≡◌, ◌≢◌, ℕ, ◌≤◌, Bool, true, Option, Some}
use Rattle.link_tree.specs.Tree.{Cell, Tree, nodes_of, IsTree, is_sorted, height}
use Rattle.link_tree.specs.Nodes.{is_in}

-- the link leads to this ordered tree of at most this height, and the cursor is at none of its nodes
pub record IsAhead (precedes : ℕ → ℕ → Bool) (cells : ℕ → Cell) (link : Option ℕ) (levels : ℕ) (here : Option ℕ)
    (t : Tree) : Type 0 where
  pub tree : IsTree cells link t
  pub ordered : is_sorted precedes (nodes_of t) ≡ true
  pub low : height t ≤ levels
  pub away : (m : ℕ) → is_in m (nodes_of t) ≡ true → here ≢ Some m
