-- Rotations and recolourings, as functions of trees.
use Rattle.std.specs.Prelude.{◌≡◌, ℕ, Bool, true, false, not, ◌&&◌, ◌||◌, Option, List, if◌then◌else◌}
use Rattle.link_tree.specs.Tree.{Cell, Tree, leaf, fork, IsTree, has_black_root}
use Rattle.link_tree.specs.Nodes.{is_in}
use Rattle.link_tree.specs.Sides.{opposite, tree_on, joined_at}
use Rattle.link_tree.specs.declared.cursor.Side.{Side}

-- the link now leads to this tree, and only cells of these nodes changed
pub record BecomesTree (cells cells' : ℕ → Cell) (ns : List ℕ) (link : Option ℕ) (t : Tree) : Type 0 where
  pub tree : IsTree cells' link t
  pub frame : (m : ℕ) → is_in m ns ≡ false → cells' m ≡ cells m

-- the tree with a root of this colour
abbrev pub painted : Bool → Tree → Tree
painted red leaf = leaf
painted red (fork old left n right) = fork red left n right

-- the tree with its root made black
abbrev pub blackened : Tree → Tree
blackened t = painted false t

-- the root of the tree is red
abbrev pub is_red_tree : Tree → Bool
is_red_tree t = not (has_black_root t)

-- the tree with a red root over two black children
abbrev pub flipped : Tree → Tree
flipped leaf = leaf
flipped (fork red left n right) = fork true (blackened left) n (blackened right)

abbrev pub lifted_over : Side → Bool → Tree → ℕ → Tree → Tree
lifted_over side red leaf n far = joined_at side red leaf n far
lifted_over side red (fork red' left m right) n far =
    joined_at side red' (tree_on side left right) m (joined_at side red (tree_on (opposite side) left right) n far)

-- the tree rotated, so that the child on this side is the root
abbrev pub rotated : Side → Tree → Tree
rotated side leaf = leaf
rotated side (fork red left n right) = lifted_over side red (tree_on side left right) n
    (tree_on (opposite side) left right)

abbrev pub balanced_inner : Side → Tree → ℕ → Tree → ℕ → Tree → Tree
balanced_inner side a m leaf n far = joined_at side false (joined_at side true a m leaf) n far
balanced_inner side a m (fork false p k q) n far = joined_at side false (joined_at side true a m (fork false p k q)) n
    far
balanced_inner side a m (fork true p k q) n far =
    joined_at side true (joined_at side false a m (tree_on side p q)) k
    (joined_at side false (tree_on (opposite side) p q) n far)

abbrev pub balanced_outer : Side → Tree → ℕ → Tree → ℕ → Tree → Tree
balanced_outer side a m b n far =
    if is_red_tree a then joined_at side true (blackened a) m (joined_at side false b n far) else balanced_inner side a
    m b n far

abbrev pub balanced_red : Side → Tree → ℕ → Tree → ℕ → Tree → Tree
balanced_red side a m b n far =
    if (is_red_tree a || is_red_tree b) && is_red_tree far
    then flipped (joined_at side false (joined_at side true a m b) n far)
    else balanced_outer side a m b n far

-- A black node over two trees. If the tree on this side has two red nodes in a row, the result is a red node over two
-- black ones: by the colours alone if both trees have a red root, else by rotations.
abbrev pub balanced : Side → Tree → ℕ → Tree → Tree
balanced side leaf n far = joined_at side false leaf n far
balanced side (fork false left m right) n far = joined_at side false (fork false left m right) n far
balanced side (fork true left m right) n far = balanced_red side (tree_on side left right) m
    (tree_on (opposite side) left right) n far

-- repairs a black root whose red child on this side has a red child: a red root then stands over two black nodes
abbrev pub rebalanced : Side → Tree → Tree
rebalanced side leaf = leaf
rebalanced side (fork true left n right) = fork true left n right
rebalanced side (fork false left n right) = balanced side (tree_on side left right) n
    (tree_on (opposite side) left right)
