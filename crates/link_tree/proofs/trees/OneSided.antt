-- Trees seen from one side of their root, and what a change of one cell does to them.
use Rattle.std.proofs.Common.{◌≡◌, ℕ, ◌+◌, ◌≤◌, arith, Bool, true, false, Option, Some, List, ◌∷◌, refl, sym, ◌∙◌}
use Rattle.std.proofs.Common.{append_assoc, subst}
use Rattle.std.proofs.lemmas.Bool.{true≢false, eq-eqb, ne_eqb}
use Rattle.link_tree.specs.Tree.{Cell, Tree, leaf, fork, root_of, nodes_of, AreCellsOf, IsTree, is_sorted, height}
use Rattle.link_tree.specs.Nodes.{is_in, with_left, with_right, with_red}
use Rattle.link_tree.specs.Sides.{opposite, child_of, with_child, tree_on, joined_at}
use Rattle.link_tree.specs.Turning.{BecomesTree, rotated, painted}
use Rattle.link_tree.specs.declared.cursor.Side.{Side}
use Rattle.link_tree.specs.declared.cursor.Side.TheVariants.{Left, Right}
use Rattle.link_tree.proofs.trees.OrderedLists.{IsStrict, rises_split, in_left, in_right, in_middle, outside_parts}
use Rattle.link_tree.proofs.trees.OrderedLists.{not_left, not_right, not_both}
use Rattle.link_tree.proofs.trees.Linked.{open_tree}

-- a cell by its side
abbrev pub cell_at : Side → Bool → Option ℕ → Option ℕ → Cell
cell_at Left red near far = record { left = near; right = far; red = red }
cell_at Right red near far = record { left = far; right = near; red = red }

-- a cell is made of its colour and its children by side
pub cell_is : (side : Side) (c : Cell) → c ≡ cell_at side c.red (child_of side c) (child_of (opposite side) c)
cell_is Left c = refl
cell_is Right c = refl

-- the near child of a cell
pub child_of_cell : (side : Side) (red : Bool) (near far : Option ℕ) → child_of side (cell_at side red near far) ≡ near
child_of_cell Left red near far = refl
child_of_cell Right red near far = refl

-- the far child of a cell
pub far_of_cell : (side : Side) (red : Bool) (near far : Option ℕ)
    → child_of (opposite side) (cell_at side red near far) ≡ far
far_of_cell Left red near far = refl
far_of_cell Right red near far = refl

-- the colour of a cell
pub red_of_cell : (side : Side) (red : Bool) (near far : Option ℕ) → (cell_at side red near far).red ≡ red
red_of_cell Left red near far = refl
red_of_cell Right red near far = refl

-- a child that is changed changes no other cell
pub with_child-other : (side : Side) (h : ℕ → Cell) (n m : ℕ) (to : Option ℕ) → (m ≡ n → ⊥)
    → with_child side h n to m ≡ h m
unfolding with_left with_right
with_child-other Left h n m to d = let e = ne_eqb m n d in rw e refl
with_child-other Right h n m to d = let e = ne_eqb m n d in rw e refl

-- the near child is changed, and the far one stays
pub with_child-near : (side : Side) (h : ℕ → Cell) (n : ℕ) (red : Bool) (near far to : Option ℕ)
    → h n ≡ cell_at side red near far → with_child side h n to n ≡ cell_at side red to far
unfolding with_left with_right
with_child-near Left h n red near far to w = let e = eq-eqb n n refl in rw (e, w) refl
with_child-near Right h n red near far to w = let e = eq-eqb n n refl in rw (e, w) refl

-- the far child is changed, and the near one stays
pub with_child-far : (side : Side) (h : ℕ → Cell) (n : ℕ) (red : Bool) (near far to : Option ℕ)
    → h n ≡ cell_at side red near far → with_child (opposite side) h n to n ≡ cell_at side red near to
unfolding with_left with_right
with_child-far Left h n red near far to w = let e = eq-eqb n n refl in rw (e, w) refl
with_child-far Right h n red near far to w = let e = eq-eqb n n refl in rw (e, w) refl

-- a colour that is changed changes no other cell
pub with_red-other : (h : ℕ → Cell) (n m : ℕ) (red : Bool) → (m ≡ n → ⊥) → with_red h n red m ≡ h m
unfolding with_red
with_red-other h n m red d = let e = ne_eqb m n d in rw e refl

-- a colour that is changed leaves both children
pub with_red-same : (h : ℕ → Cell) (n : ℕ) (old red : Bool) (left right : Option ℕ)
    → h n ≡ record { left = left; right = right; red = old }
    → with_red h n red n ≡ record { left = left; right = right; red = red }
unfolding with_red
with_red-same h n old red left right w = let e = eq-eqb n n refl in rw (e, w) refl

-- ---- trees from one side

-- the opposite of the opposite side is the side
pub opposite_twice : (side : Side) → opposite (opposite side) ≡ side
opposite_twice Left = refl
opposite_twice Right = refl

-- a tree, seen from a side of its root
pub fork_joined : (side : Side) (red : Bool) (l : Tree) (n : ℕ) (r : Tree)
    → fork red l n r ≡ joined_at side red (tree_on side l r) n (tree_on (opposite side) l r)
fork_joined Left red l n r = refl
fork_joined Right red l n r = refl

-- a tree, seen from either side of its root, is one
pub joined_opposite : (side : Side) (red : Bool) (near : Tree) (n : ℕ) (far : Tree)
    → joined_at side red near n far ≡ joined_at (opposite side) red far n near
joined_opposite Left red near n far = refl
joined_opposite Right red near n far = refl

-- the root of a tree seen from a side
pub root_joined : (side : Side) (red : Bool) (near : Tree) (n : ℕ) (far : Tree)
    → root_of (joined_at side red near n far) ≡ Some n
root_joined Left red near n far = refl
root_joined Right red near n far = refl

pub record IsJoint (h : ℕ → Cell) (side : Side) (red : Bool) (near : Tree) (n : ℕ) (far : Tree) : Type 0 where
  pub cell : h n ≡ cell_at side red (root_of near) (root_of far)
  pub near_holds : AreCellsOf h near
  pub far_holds : AreCellsOf h far

-- the cells of a tree seen from a side: its root's cell and both subtrees
pub joint_of : (h : ℕ → Cell) (side : Side) (red : Bool) (near : Tree) (n : ℕ) (far : Tree)
    → AreCellsOf h (joined_at side red near n far) → IsJoint h side red near n far
joint_of h Left red near n far w = record { cell = w.0; near_holds = w.1; far_holds = w.2 }
joint_of h Right red near n far w = record { cell = w.0; near_holds = w.2; far_holds = w.1 }

pub holds_joint : (h : ℕ → Cell) (side : Side) (red : Bool) (near : Tree) (n : ℕ) (far : Tree)
    → IsJoint h side red near n far → AreCellsOf h (joined_at side red near n far)
holds_joint h Left red near n far j = (j.cell, j.near_holds, j.far_holds)
holds_joint h Right red near n far j = (j.cell, j.far_holds, j.near_holds)

-- a root's cell and both subtrees make a tree
pub tree_joint : (h : ℕ → Cell) (side : Side) (red : Bool) (near : Tree) (n : ℕ) (far : Tree)
    → IsJoint h side red near n far → IsTree h (Some n) (joined_at side red near n far)
tree_joint h side red near n far j =
    record { root = sym (root_joined side red near n far); holds = holds_joint h side red near n far j }

-- the tree of a node, seen from a side
pub record IsOpenAt (h : ℕ → Cell) (side : Side) (n : ℕ) (t : Tree) : Type 0 where
  pub near : Tree
  pub far : Tree
  pub is : t ≡ joined_at side (h n).red near n far
  pub near_tree : IsTree h (child_of side (h n)) near
  pub far_tree : IsTree h (child_of (opposite side) (h n)) far

-- a tree with a root is opened at a side
pub open_side : (h : ℕ → Cell) (side : Side) (n : ℕ) (t : Tree) → IsTree h (Some n) t → IsOpenAt h side n t
open_side h Left n t w =
    let o = open_tree h n t w in
    record { near = o.left; far = o.right; is = o.is; near_tree = o.left_tree; far_tree = o.right_tree }
open_side h Right n t w =
    let o = open_tree h n t w in
    record { near = o.right; far = o.left; is = o.is; near_tree = o.right_tree; far_tree = o.left_tree }

-- the nodes of the two trees and the root stand apart
pub record IsApart (lt : ℕ → ℕ → Bool) (near : Tree) (n : ℕ) (far : Tree) : Type 0 where
  pub near_rises : is_sorted lt (nodes_of near) ≡ true
  pub far_rises : is_sorted lt (nodes_of far) ≡ true
  pub not_near : is_in n (nodes_of near) ≡ false
  pub not_far : is_in n (nodes_of far) ≡ false
  pub far_of_near : (m : ℕ) → is_in m (nodes_of near) ≡ true → is_in m (nodes_of far) ≡ false
  pub near_of_far : (m : ℕ) → is_in m (nodes_of far) ≡ true → is_in m (nodes_of near) ≡ false

pub turn_round : (a b : Bool) → (a ≡ true → b ≡ false) → b ≡ true → a ≡ false
turn_round true b f e = absurd (true≢false (sym e ∙ f refl))
turn_round false b f e = refl

-- a node of the near subtree is one of the tree
pub in_near : (side : Side) (red : Bool) (near : Tree) (n : ℕ) (far : Tree) (m : ℕ) → is_in m (nodes_of near) ≡ true
    → is_in m (nodes_of (joined_at side red near n far)) ≡ true
in_near Left red near n far m i = in_left m (nodes_of near) n (nodes_of far) i
in_near Right red near n far m i = in_right m (nodes_of far) n (nodes_of near) i

-- a node of the far subtree is one of the tree
pub in_far : (side : Side) (red : Bool) (near : Tree) (n : ℕ) (far : Tree) (m : ℕ) → is_in m (nodes_of far) ≡ true
    → is_in m (nodes_of (joined_at side red near n far)) ≡ true
in_far Left red near n far m i = in_right m (nodes_of near) n (nodes_of far) i
in_far Right red near n far m i = in_left m (nodes_of far) n (nodes_of near) i

-- the root is a node of the tree
pub in_root : (side : Side) (red : Bool) (near : Tree) (n : ℕ) (far : Tree)
    → is_in n (nodes_of (joined_at side red near n far)) ≡ true
in_root Left red near n far = in_middle (nodes_of near) n (nodes_of far)
in_root Right red near n far = in_middle (nodes_of far) n (nodes_of near)

-- a node outside a joined tree is outside its parts
pub record IsOutsideAll (near : Tree) (n : ℕ) (far : Tree) (m : ℕ) : Type 0 where
  pub near_out : is_in m (nodes_of near) ≡ false
  pub root_out : m ≡ n → ⊥
  pub far_out : is_in m (nodes_of far) ≡ false

-- a node outside of a tree is outside of both subtrees and no root
pub outside_all : (side : Side) (red : Bool) (near : Tree) (n : ℕ) (far : Tree) (m : ℕ)
    → is_in m (nodes_of (joined_at side red near n far)) ≡ false → IsOutsideAll near n far m
outside_all Left red near n far m o =
    let p = outside_parts m (nodes_of near) n (nodes_of far) o in
    record { near_out = p.left; root_out = p.middle; far_out = p.right }
outside_all Right red near n far m o =
    let p = outside_parts m (nodes_of far) n (nodes_of near) o in
    record { near_out = p.right; root_out = p.middle; far_out = p.left }

-- the near subtree is lower than the tree
pub lower_near : (side : Side) (red : Bool) (near : Tree) (n : ℕ) (far : Tree)
    → height near + 1 ≤ height (joined_at side red near n far)
lower_near Left red near n far = omega arith
lower_near Right red near n far = omega arith

-- one node of a list is not another that is outside
pub other_than : (m n : ℕ) (ns : List ℕ) → is_in m ns ≡ true → is_in n ns ≡ false → m ≡ n → ⊥
other_than m n ns i o e = let j = rw e at i in true≢false (sym j ∙ o)

module _ {lt : ℕ → ℕ → Bool} (strict : IsStrict lt) where
  -- the nodes of a sorted tree differ from side to side
  pub apart_of : (side : Side) (red : Bool) (near : Tree) (n : ℕ) (far : Tree)
      → is_sorted lt (nodes_of (joined_at side red near n far)) ≡ true → IsApart lt near n far
  apart_of Left red near n far o =
      let xs = nodes_of near in
      let ys = nodes_of far in
      let s = rises_split lt xs n ys o in
      record {
        near_rises = s.left;
        far_rises = s.right;
        not_near = not_left strict xs n ys s;
        not_far = not_right strict xs n ys s;
        far_of_near = not_both strict xs n ys s;
        near_of_far = λ m i. turn_round (is_in m xs) (is_in m ys) (not_both strict xs n ys s m) i;
      }
  apart_of Right red near n far o =
      let xs = nodes_of far in
      let ys = nodes_of near in
      let s = rises_split lt xs n ys o in
      record {
        near_rises = s.right;
        far_rises = s.left;
        not_near = not_right strict xs n ys s;
        not_far = not_left strict xs n ys s;
        far_of_near = λ m i. turn_round (is_in m xs) (is_in m ys) (not_both strict xs n ys s m) i;
        near_of_far = not_both strict xs n ys s;
      }

  -- the ordered tree of a node, seen from a side, and its parts
  pub record IsParted (h : ℕ → Cell) (side : Side) (n : ℕ) (t : Tree) : Type 0 where
    pub near : Tree
    pub far : Tree
    pub is : t ≡ joined_at side (h n).red near n far
    pub near_tree : IsTree h (child_of side (h n)) near
    pub far_tree : IsTree h (child_of (opposite side) (h n)) far
    pub order : is_sorted lt (nodes_of (joined_at side (h n).red near n far)) ≡ true
    pub holds : AreCellsOf h (joined_at side (h n).red near n far)
    pub joint : IsJoint h side (h n).red near n far
    pub apart : IsApart lt near n far
    pub lower : height near + 1 ≤ height t

  -- a sorted tree with a root is opened at a side, with its parts apart
  pub parted : (side : Side) (h : ℕ → Cell) (n : ℕ) (t : Tree) → IsTree h (Some n) t → is_sorted lt (nodes_of t) ≡ true
      → IsParted h side n t
  parted side h n t w o =
      let p = open_side h side n t w in
      let red = (h n).red in
      let order : is_sorted lt (nodes_of (joined_at side red p.near n p.far)) ≡ true = rw p.is at o in
      let holds : AreCellsOf h (joined_at side red p.near n p.far) = rw p.is at w.holds in
      let low = lower_near side red p.near n p.far in
      record {
        near = p.near;
        far = p.far;
        is = p.is;
        near_tree = p.near_tree;
        far_tree = p.far_tree;
        order = order;
        holds = holds;
        joint = joint_of h side red p.near n p.far holds;
        apart = apart_of side red p.near n p.far order;
        lower = subst (λ u. height p.near + 1 ≤ height u) (sym p.is) low;
      }

-- the effect of a call on each ordered tree of a link
abbrev pub Makes : (ℕ → ℕ → Bool) → (h h' : ℕ → Cell) (link link' : Option ℕ) → (Tree → Tree) → Type 0
Makes lt h h' link link' f =
    (t : Tree) → IsTree h link t → is_sorted lt (nodes_of t) ≡ true → BecomesTree h h' (nodes_of t) link' (f t)

-- ---- nodes

-- another near subtree of the same nodes: the tree has the same nodes
pub nodes_of-joined : (side : Side) (red red' : Bool) (near near' : Tree) (n : ℕ) (far : Tree)
    → nodes_of near' ≡ nodes_of near
    → nodes_of (joined_at side red' near' n far) ≡ nodes_of (joined_at side red near n far)
nodes_of-joined Left red red' near near' n far e = rw e refl
nodes_of-joined Right red red' near near' n far e = rw e refl

-- another far subtree of the same nodes: the tree has the same nodes
pub nodes_of-joined_far : (side : Side) (red red' : Bool) (near : Tree) (n : ℕ) (far far' : Tree)
    → nodes_of far' ≡ nodes_of far
    → nodes_of (joined_at side red' near n far') ≡ nodes_of (joined_at side red near n far)
nodes_of-joined_far Left red red' near n far far' e = rw e refl
nodes_of-joined_far Right red red' near n far far' e = rw e refl

-- another colour of the root: the tree has the same nodes
pub nodes_of-painted : (red : Bool) (t : Tree) → nodes_of (painted red t) ≡ nodes_of t
nodes_of-painted red leaf = refl
nodes_of-painted red (fork old l n r) = refl

-- a rotation keeps the nodes and their order
pub nodes_of-turn : (side : Side) (c d c' d' : Bool) (a : Tree) (m : ℕ) (b : Tree) (n : ℕ) (far : Tree)
    → nodes_of (joined_at side d' a m (joined_at side c' b n far)) ≡ nodes_of
    (joined_at side c (joined_at side d a m b) n far)
nodes_of-turn Left c d c' d' a m b n far = sym (append_assoc (nodes_of a) (m ∷ nodes_of b) (n ∷ nodes_of far))
nodes_of-turn Right c d c' d' a m b n far = append_assoc (nodes_of far) (n ∷ nodes_of b) (m ∷ nodes_of a)

-- the effect of a rotation on a tree, seen from a side
pub rotated-joined : (side : Side) (c d : Bool) (a : Tree) (m : ℕ) (b : Tree) (n : ℕ) (far : Tree)
    → rotated side (joined_at side c (joined_at side d a m b) n far) ≡ joined_at side d a m (joined_at side c b n far)
rotated-joined Left c d a m b n far = refl
rotated-joined Right c d a m b n far = refl
