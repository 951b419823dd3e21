-- Ordered red-black trees over numbered nodes, and the links between the nodes.
use Rattle.std.specs.Prelude.{◌≡◌, ℕ, zero, suc, ◌+◌, ◌*◌, ◌≤◌, max, Bool, true, false, not, ◌&&◌, Option, Some, None}
use Rattle.std.specs.Prelude.{List, [], ◌∷◌, ◌++◌, length, IsTrue, ◌==◌, if◌then◌else◌, ◌↔◌}
use Rattle.std.specs.List.{list_all}
use Rattle.std.specs.Int.Digits.{digits_of}

-- the fields of a node: left link, right link, red or black
pub record Cell : Type 0 where
  pub left : Option ℕ
  pub right : Option ℕ
  pub red : Bool

-- no node; or whether the node is red, its left tree, the node, and its right tree
pub data Tree : Type 0 where
  leaf : Tree
  fork : Bool → Tree → ℕ → Tree → Tree

-- the link to the tree
abbrev pub root_of : Tree → Option ℕ
root_of leaf = None
root_of (fork red left n right) = Some n

-- the nodes of a tree in order
abbrev pub nodes_of : Tree → List ℕ
nodes_of leaf = []
nodes_of (fork red left n right) = nodes_of left ++ n ∷ nodes_of right

-- the cell of each node of the tree holds its colour and the links to its two subtrees
abbrev pub AreCellsOf : (ℕ → Cell) → Tree → Type 0
AreCellsOf cells leaf = Unit {0}
AreCellsOf cells (fork red left n right) =
    (cells n ≡ record { left = root_of left; right = root_of right; red = red }) × AreCellsOf cells left
    × AreCellsOf cells right

-- the link leads to this tree
pub record IsTree (cells : ℕ → Cell) (link : Option ℕ) (t : Tree) : Type 0 where
  pub root : link ≡ root_of t
  pub holds : AreCellsOf cells t

-- each node precedes all nodes after it, so no node is in the list twice
abbrev pub is_sorted : (ℕ → ℕ → Bool) → List ℕ → Bool
is_sorted precedes [] = true
is_sorted precedes (n ∷ ns) = list_all (precedes n) ns && is_sorted precedes ns

abbrev pub has_black_root : Tree → Bool
has_black_root leaf = true
has_black_root (fork red left n right) = not red

-- no red node has a red child
abbrev pub has_no_red_pair : Tree → Bool
has_no_red_pair leaf = true
has_no_red_pair (fork true left n right) =
    has_black_root left && has_black_root right && has_no_red_pair left && has_no_red_pair right
has_no_red_pair (fork false left n right) = has_no_red_pair left && has_no_red_pair right

-- each path to a null link has this many black nodes
abbrev pub has_black_height : Tree → ℕ → Bool
has_black_height leaf h = h == 0
has_black_height (fork true left n right) h = has_black_height left h && has_black_height right h
has_black_height (fork false left n right) zero = false
has_black_height (fork false left n right) (suc h) = has_black_height left h && has_black_height right h

-- a black root, no red child of a red node, and equally many black nodes on every path to a null link
pub record IsRedBlack (t : Tree) : Type 0 where
  pub root : IsTrue (has_black_root t)
  pub no_red_pair : IsTrue (has_no_red_pair t)
  pub black : (h : ℕ) × IsTrue (has_black_height t h)

-- the link leads to this tree, which is ordered and red-black
pub record IsSearchTree (precedes : ℕ → ℕ → Bool) (cells : ℕ → Cell) (link : Option ℕ) (t : Tree) : Type 0 where
  pub tree : IsTree cells link t
  pub ordered : IsTrue (is_sorted precedes (nodes_of t))
  pub red_black : IsRedBlack t

-- the nodes on the longest path to a null link
abbrev pub height : Tree → ℕ
height leaf = 0
height (fork red left n right) = suc (max (height left) (height right))

-- the number of binary digits
abbrev pub bits : ℕ → ℕ
bits n = length (digits_of 2 n)

-- the law: a red-black tree of n nodes is no higher than 2 * bits (n + 1)
abbrev pub BoundsHeight : Type 0
BoundsHeight = (t : Tree) → IsRedBlack t → height t ≤ 2 * bits (length (nodes_of t) + 1)

-- ---- a tree read from links

-- the tree of a node, if both trees below it are there
abbrev pub joined : ℕ → Bool → Option Tree → Option Tree → Option Tree
joined n red None right = None
joined n red (Some left) right = elim right [ None ↦ None | Some right ↦ Some (fork red left n right) ]

-- the tree behind a link, down to this depth; none if the tree is deeper, or if a link leads to a number that is no
-- node
abbrev pub tree_from : ℕ → (ℕ → Bool) → (ℕ → Cell) → Option ℕ → Option Tree
tree_from zero good cells link = elim link [ None ↦ Some leaf | Some n ↦ None ]
tree_from (suc depth) good cells link = elim link [
  | None ↦ Some leaf
  | Some n ↦ if good n then joined n (cells n).red (tree_from depth good cells (cells n).left)
      (tree_from depth good cells (cells n).right) else None
]

-- the black nodes on the leftmost path
abbrev pub left_blacks : Tree → ℕ
left_blacks leaf = 0
left_blacks (fork true left n right) = left_blacks left
left_blacks (fork false left n right) = suc (left_blacks left)

-- `IsRedBlack` as a test
abbrev pub is_red_black : Tree → Bool
is_red_black t = has_black_root t && has_no_red_pair t && has_black_height t (left_blacks t)

-- two laws of the reading: a tree that is read is the tree there, and each tree within the depth is read
pub record ReadsOff : Type 0 where
  pub sound : (depth : ℕ) (good : ℕ → Bool) (cells : ℕ → Cell) (link : Option ℕ) (t : Tree)
      → tree_from depth good cells link ≡ Some t → IsTree cells link t × IsTrue (list_all good (nodes_of t))
  pub whole : (depth : ℕ) (good : ℕ → Bool) (cells : ℕ → Cell) (link : Option ℕ) (t : Tree)
      → IsTree cells link t → IsTrue (list_all good (nodes_of t)) → height t ≤ depth
      → tree_from depth good cells link ≡ Some t
  pub red_black : (t : Tree) → IsTrue (is_red_black t) ↔ IsRedBlack t
