-- Trees behind links: a tree with a root has a cell and two subtrees, and a tree stays if the cells of its nodes stay.
use Rattle.std.proofs.Common.{◌≡◌, ℕ, Bool, true, false, List, Option, Some, None, refl, sym, ap, ◌∙◌, subst}
use Rattle.link_tree.specs.Tree.{Cell, Tree, leaf, fork, root_of, nodes_of, AreCellsOf, IsTree, IsSearchTree}
use Rattle.link_tree.specs.Nodes.{is_in}
use Rattle.link_tree.proofs.trees.OrderedLists.{in_left, in_right, in_middle}

-- the values of two equal options are equal
pub some_same : (m n : ℕ) → Some m ≡ Some n → m ≡ n
some_same m n e = cc

-- an option without a value differs from one with a value
pub none_some : (n : ℕ) → None ≡ Some n → ⊥
none_some n e = cc

-- a tree at a node: the node's cell names its two trees
pub record IsOpen (h : ℕ → Cell) (n : ℕ) (t : Tree) : Type 0 where
  pub left : Tree
  pub right : Tree
  pub is : t ≡ fork (h n).red left n right
  pub left_tree : IsTree h (h n).left left
  pub right_tree : IsTree h (h n).right right

-- a tree with a root is opened into its cell and two subtrees
pub open_tree : (h : ℕ → Cell) (n : ℕ) (t : Tree) → IsTree h (Some n) t → IsOpen h n t
open_tree h n leaf w = absurd (none_some n (sym w.root))
open_tree h n (fork red l m r) w =
    let e = some_same n m w.root in
    let cell : h n ≡ record { left = root_of l; right = root_of r; red = red } = ap h e ∙ w.holds.0 in
    let at_red : (h n).red ≡ red = ap (λ (c : Cell). c.red) cell in
    record {
      left = l;
      right = r;
      is = rw (at_red, e) refl;
      left_tree = record { root = ap (λ (c : Cell). c.left) cell; holds = w.holds.1 };
      right_tree = record { root = ap (λ (c : Cell). c.right) cell; holds = w.holds.2 };
    }

-- a cell and two subtrees make a tree
pub close_tree : (h : ℕ → Cell) (n : ℕ) (red : Bool) (l r : Tree) (left right : Option ℕ)
    → h n ≡ record { left = left; right = right; red = red } → IsTree h left l → IsTree h right r
    → IsTree h (Some n) (fork red l n r)
close_tree h n red l r left right e wl wr =
    record { root = refl; holds = (e ∙ (rw (wl.root, wr.root) refl), wl.holds, wr.holds) }

-- the tree behind a null link is empty
pub no_tree : (h : ℕ → Cell) (t : Tree) → IsTree h None t → t ≡ leaf
no_tree h leaf w = refl
no_tree h (fork red l m r) w = absurd (none_some m w.root)

-- the root is a node of its tree
pub root_in : (h : ℕ → Cell) (n : ℕ) (t : Tree) → IsTree h (Some n) t → is_in n (nodes_of t) ≡ true
root_in h n t w =
    let o = open_tree h n t w in
    subst (λ (u : Tree). is_in n (nodes_of u) ≡ true) (sym o.is) (in_middle (nodes_of o.left) n (nodes_of o.right))

-- a tree stays if no cell of its nodes changes
pub holds_same : (h h' : ℕ → Cell) (t : Tree) → ((m : ℕ) → is_in m (nodes_of t) ≡ true → h' m ≡ h m) → AreCellsOf h t
    → AreCellsOf h' t
holds_same h h' leaf same w = tt
holds_same h h' (fork red l n r) same w = (
  same n (in_middle (nodes_of l) n (nodes_of r)) ∙ w.0,
  holds_same h h' l (λ m i. same m (in_left m (nodes_of l) n (nodes_of r) i)) w.1,
  holds_same h h' r (λ m i. same m (in_right m (nodes_of l) n (nodes_of r) i)) w.2,
)

-- a link keeps its tree if no cell of the tree's nodes changes
pub tree_same : (h h' : ℕ → Cell) (link : Option ℕ) (t : Tree) → ((m : ℕ) → is_in m (nodes_of t) ≡ true → h' m ≡ h m)
    → IsTree h link t → IsTree h' link t
tree_same h h' link t same w = record { root = w.root; holds = holds_same h h' t same w.holds }

-- a change leaves an ordered red-black tree with the nodes `ns`, and changes only cells of the nodes `changed`
pub record IsChanged (lt : ℕ → ℕ → Bool) (h h' : ℕ → Cell) (root : Option ℕ) (changed ns : List ℕ) : Type 0 where
  pub tree : (t : Tree) × IsSearchTree lt h' root t × (nodes_of t ≡ ns)
  pub frame : (m : ℕ) → is_in m changed ≡ false → h' m ≡ h m

-- a link leads to one tree at most
pub one_tree : (h : ℕ → Cell) (link : Option ℕ) (s t : Tree) → IsTree h link s → IsTree h link t → s ≡ t
one_tree h link leaf t v w =
    let w' : IsTree h None t = record { root = sym v.root ∙ w.root; holds = w.holds } in
    sym (no_tree h t w')
one_tree h link (fork red l n r) t v w =
    let w' : IsTree h (Some n) t = record { root = sym v.root ∙ w.root; holds = w.holds } in
    let o = open_tree h n t w' in
    let v' : IsTree h (Some n) (fork red l n r) = record { root = refl; holds = v.holds } in
    let vl : IsTree h (h n).left l = record { root = ap (λ (c : Cell). c.left) v.holds.0; holds = v.holds.1 } in
    let vr : IsTree h (h n).right r = record { root = ap (λ (c : Cell). c.right) v.holds.0; holds = v.holds.2 } in
    let el = one_tree h (h n).left l o.left vl o.left_tree in
    let er = one_tree h (h n).right r o.right vr o.right_tree in
    let ec : (h n).red ≡ red = ap (λ (c : Cell). c.red) v.holds.0 in
    let e2 = o.is in
    cc
