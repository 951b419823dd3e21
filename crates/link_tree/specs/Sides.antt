-- The two sides of a node.
use Rattle.std.specs.Prelude.{ℕ, Bool, true, false, Option}
use Rattle.link_tree.specs.Tree.{Cell, Tree, fork}
use Rattle.link_tree.specs.Nodes.{with_left, with_right}
use Rattle.link_tree.specs.declared.cursor.Side.{Side}
use Rattle.link_tree.specs.declared.cursor.Side.TheVariants.{Left, Right}

-- the opposite side
abbrev pub opposite : Side → Side
opposite Left = Right
opposite Right = Left

-- the link of a cell on this side
abbrev pub child_of : Side → Cell → Option ℕ
child_of Left cell = cell.left
child_of Right cell = cell.right

-- the cells, except that one node's link on this side is now `to`
abbrev pub with_child : Side → (ℕ → Cell) → ℕ → Option ℕ → ℕ → Cell
with_child Left = with_left
with_child Right = with_right

-- the left or the right tree, by the side
abbrev pub tree_on : Side → Tree → Tree → Tree
tree_on Left left right = left
tree_on Right left right = right

-- the tree with `near` on this side of the node and `far` on the other side
abbrev pub joined_at : Side → Bool → Tree → ℕ → Tree → Tree
joined_at Left red near n far = fork red near n far
joined_at Right red near n far = fork red far n near

-- the left side for a node that precedes another, otherwise the right side
abbrev pub side_of : Bool → Side
side_of true = Left
side_of false = Right
