-- How a removal takes the first node of a tree, and hangs a tree that shrank under its parent again.
use Rattle.std.proofs.Common.{◌≡◌, ℕ, ◌+◌, ◌≤◌, Bool, true, false, Option, Some, None, List, [], ◌∷◌, ◌++◌, nat_eq}
use Rattle.std.proofs.Common.{refl, sym, ap, ◌∙◌, subst}
use Rattle.std.proofs.lemmas.Bool.{ne_eqb, or_from, or_parts}
use Rattle.link_tree.specs.Tree.{Cell, Tree, leaf, fork, root_of, nodes_of, AreCellsOf, IsTree, is_sorted, height}
use Rattle.link_tree.specs.Nodes.{is_in}
use Rattle.link_tree.specs.Sides.{opposite, child_of, joined_at}
use Rattle.link_tree.specs.Shrinking.{RemovedSubtree, IsOrderedTree, RemovesTo, settled, sunk, least_of, without_least}
use Rattle.link_tree.specs.declared.cursor.Side.{Side}
use Rattle.link_tree.specs.declared.cursor.Side.TheVariants.{Left, Right}
use Rattle.link_tree.proofs.trees.OrderedLists.{IsStrict, rises_split, is_in-append, not_right}
use Rattle.link_tree.proofs.trees.Linked.{holds_same, none_some, no_tree, root_in}
use Rattle.link_tree.proofs.trees.OneSided.{parted, far_of_cell, red_of_cell, joint_of, apart_of, outside_all}
use Rattle.link_tree.proofs.trees.OneSided.{other_than}
use Rattle.link_tree.proofs.removing.Removal.{nodes_of-least}

-- a node outside the parts is outside a joined tree
pub outside_join : (side : Side) (red : Bool) (near : Tree) (n : ℕ) (far : Tree) (m : ℕ)
    → is_in m (nodes_of near) ≡ false → (m ≡ n → ⊥) → is_in m (nodes_of far) ≡ false
    → is_in m (nodes_of (joined_at side red near n far)) ≡ false
outside_join Left red near n far m a d b = is_in-append m (nodes_of near) (n ∷ nodes_of far)
    ∙ or_from (is_in m (nodes_of near)) (is_in m (n ∷ nodes_of far)) a (or_from (nat_eq m n) (is_in m (nodes_of far))
    (ne_eqb m n d) b)
outside_join Right red near n far m a d b = is_in-append m (nodes_of far) (n ∷ nodes_of near)
    ∙ or_from (is_in m (nodes_of far)) (is_in m (n ∷ nodes_of near)) b (or_from (nat_eq m n) (is_in m (nodes_of near))
    (ne_eqb m n d) a)

-- changes of fewer nodes are changes of more
pub widen : (h h' : ℕ → Cell) (xs ys : List ℕ) (link : Option ℕ) (fell : Bool) (rest : RemovedSubtree)
    → ((m : ℕ) → is_in m ys ≡ false → is_in m xs ≡ false)
    → RemovesTo h h' xs link fell rest → RemovesTo h h' ys link fell rest
widen h h' xs ys link fell rest sub u = record {
  turned = record { tree = u.turned.tree; frame = λ m i. u.turned.frame m (sub m i) };
  fallen = u.fallen;
}

-- right is not left
pub right_left : Right ≡ Left → ⊥
right_left e = cc

-- the effect of `settle` on each tree of the link, hung under its parent
abbrev pub Settles : (ℕ → ℕ → Bool) → (h h' : ℕ → Cell) → Side → ℕ → (link root : Option ℕ) → (fell_below fell : Bool)
    → Type 0
Settles lt h h' side at link root fell_below fell =
    (near far : Tree) → IsTree h link near → IsTree h (child_of (opposite side) (h at)) far
    → is_sorted lt (nodes_of (joined_at side (h at).red near at far)) ≡ true
    → RemovesTo h h' (nodes_of (joined_at side (h at).red near at far)) root fell
    (settled side (h at).red (record { tree = near; fell = fell_below }) at far)

module _ {lt : ℕ → ℕ → Bool} (strict : IsStrict lt) where
  -- the tree below shrank, and was hung under its parent again
  pub settle_below : (side : Side) (h h1 h2 : ℕ
      → Cell) (red : Bool) (near : Tree) (at : ℕ) (far : Tree) (rest : RemovedSubtree)
      (link root : Option ℕ) (fell_below fell : Bool)
      → AreCellsOf h (joined_at side red near at far) → is_sorted lt (nodes_of (joined_at side red near at far)) ≡ true
      → RemovesTo h h1 (nodes_of near) link fell_below rest
      → ((m : ℕ) → is_in m (nodes_of near) ≡ false → is_in m (nodes_of rest.tree) ≡ false)
      → is_sorted lt (nodes_of (joined_at side red rest.tree at far)) ≡ true
      → Settles lt h1 h2 side at link root fell_below fell
      → RemovesTo h h2 (nodes_of (joined_at side red near at far)) root fell (settled side red rest at far)
  settle_below side h h1 h2 red near at far rest link root fell_below fell w o u sub o' settle =
      let apart = apart_of strict side red near at far o in
      let joint = joint_of h side red near at far w in
      let cell = u.turned.frame at apart.not_near ∙ joint.cell in
      let is_red : (h1 at).red ≡ red = ap (λ (c : Cell). c.red) cell
      ∙ red_of_cell side red (root_of near) (root_of far) in
      let far_link : child_of (opposite side) (h1 at) ≡ root_of far = ap (child_of (opposite side)) cell
      ∙ far_of_cell side red (root_of near) (root_of far) in
      let far_holds = holds_same h h1 far (λ m i. u.turned.frame m (apart.near_of_far m i)) joint.far_holds in
      let first = settle rest.tree far u.turned.tree (record { root = far_link; holds = far_holds })
      (subst (λ (c : Bool). is_sorted lt (nodes_of (joined_at side c rest.tree at far)) ≡ true) (sym is_red) o') in
      let second = subst (λ (c : Bool). RemovesTo h1 h2 (nodes_of (joined_at side c rest.tree at far)) root fell
      (settled side c (record { tree = rest.tree; fell = fell_below }) at far)) is_red first in
      let s = subst (λ (f : Bool). RemovesTo h1 h2 (nodes_of (joined_at side red rest.tree at far)) root fell
      (settled side red (record { tree = rest.tree; fell = f }) at far)) u.fallen second in
      record {
        turned = record {
          tree = s.turned.tree;
          frame = λ m i.
              let out = outside_all side red near at far m i in
              s.turned.frame m (outside_join side red rest.tree at far m (sub m out.near_out) out.root_out out.far_out)
              ∙ u.turned.frame m out.near_out;
        };
        fallen = s.fallen;
      }

  -- ---- the first node

  -- the head of a sorted list is not in its rest
  pub apart_head : (n : ℕ) (ns : List ℕ) → is_sorted lt (n ∷ ns) ≡ true → is_in n ns ≡ false
  apart_head n ns o = not_right strict [] n ns (rises_split lt [] n ns o)

  -- a tree without its first node has all its other nodes
  pub has_least : (h : ℕ → Cell) (n : ℕ) (t : Tree) → IsTree h (Some n) t
      → nodes_of t ≡ least_of n t ∷ nodes_of (without_least t).tree
  has_least h n leaf w = absurd (none_some n (sym w.root))
  has_least h n (fork red l m r) w = nodes_of-least red l m r

  rest_out : (m n : ℕ) (xs ys : List ℕ) → xs ≡ n ∷ ys → is_in m xs ≡ false → is_in m ys ≡ false
  rest_out m n xs ys e o = (or_parts (nat_eq m n) (is_in m ys) (ap (is_in m) (sym e) ∙ o)).1

  -- a node without a tree on one side leaves the other one
  pub sink_far : (side : Side) (take : Tree → RemovedSubtree) (h h' : ℕ → Cell) (at : ℕ) (root : Option ℕ) (fell : Bool)
      (t : Tree) → IsOrderedTree lt h (Some at) t → child_of side (h at) ≡ None
      → ((red : Bool) (far : Tree) → take (joined_at side red leaf at far) ≡ sunk red far)
      → ((u : Tree) → IsTree h (child_of (opposite side) (h at)) u → is_sorted lt (nodes_of u) ≡ true
      → RemovesTo h h' (nodes_of u) root fell (sunk (h at).red u)) → RemovesTo h h' (nodes_of t) root fell (take t)
  sink_far side take h h' at root fell t w e takes sink =
      let p = parted strict side h at t w.tree w.ordered in
      let red = (h at).red in
      let none = no_tree h p.near (rw e at p.near_tree) in
      let s = sink p.far p.far_tree p.apart.far_rises in
      let is : take t ≡ sunk red p.far = ap take (p.is ∙ ap (λ x. joined_at side red x at p.far) none)
      ∙ takes red p.far in
      rw is (widen h h' (nodes_of p.far) (nodes_of t) root fell (sunk red p.far)
      (λ m i. (outside_all side red p.near at p.far m (subst (λ x. is_in m (nodes_of x) ≡ false) p.is i)).far_out) s)

  -- the tree on one side
  pub record ShrinksBelow (h : ℕ → Cell) (side : Side) (at : ℕ) (t : Tree) : Type 0 where
    pub tree : Tree
    pub shrinks : IsOrderedTree lt h (child_of side (h at)) tree
    pub lower : height tree + 1 ≤ height t

  -- the first node below a node is removed by the same steps
  pub shrinks_below : (side : Side) (h : ℕ → Cell) (at : ℕ) (t : Tree) → IsOrderedTree lt h (Some at) t
      → ShrinksBelow h side at t
  shrinks_below side h at t w =
      let p = parted strict side h at t w.tree w.ordered in
      record {
        tree = p.near;
        shrinks = record { tree = p.near_tree; ordered = p.apart.near_rises };
        lower = p.lower;
      }

  -- which is not empty
  pub record HasChild (h : ℕ → Cell) (side : Side) (at child : ℕ) (t : Tree) : Type 0 where
    pub tree : Tree
    pub far : Tree
    pub is : t ≡ joined_at side (h at).red tree at far
    pub shrinks : IsOrderedTree lt h (Some child) tree
    pub lower : height tree + 1 ≤ height t
    pub apart : child ≡ at → ⊥

  -- a child of a node is the root of a subtree
  pub child_tree : (side : Side) (h : ℕ → Cell) (at child : ℕ) (t : Tree) → IsOrderedTree lt h (Some at) t
      → child_of side (h at) ≡ Some child → HasChild h side at child t
  child_tree side h at child t w e =
      let p = parted strict side h at t w.tree w.ordered in
      let tree = rw e at p.near_tree in
      record {
        tree = p.near;
        far = p.far;
        is = p.is;
        shrinks = record { tree = tree; ordered = p.apart.near_rises };
        lower = p.lower;
        apart = other_than child at (nodes_of p.near) (root_in h child p.near tree) p.apart.not_near;
      }

  least_over : (h : ℕ → Cell) (left : ℕ) (l : Tree) (at : ℕ) → IsTree h (Some left) l → least_of at l ≡ least_of left l
  least_over h left leaf at w = absurd (none_some left (sym w.root))
  least_over h left (fork red a m b) at w = refl

  -- the first node of a tree is that of its left subtree
  pub least_below : (h : ℕ → Cell) (at left : ℕ) (t : Tree) (b : HasChild h Left at left t)
      → least_of at t ≡ least_of left b.tree
  least_below h at left t b = ap (least_of at) b.is ∙ least_over h left b.tree at b.shrinks.tree

  rises_rest : (xs ys zs : List ℕ) (n m : ℕ) → xs ≡ m ∷ ys → is_sorted lt (xs ++ n ∷ zs) ≡ true
      → is_sorted lt (ys ++ n ∷ zs) ≡ true
  rises_rest xs ys zs n m e o =
      let o' : is_sorted lt (m ∷ (ys ++ n ∷ zs)) ≡ true = ap (λ x. is_sorted lt (x ++ n ∷ zs)) (sym e) ∙ o in
      (rises_split lt [] m (ys ++ n ∷ zs) o').right

  without_least_over : (h : ℕ → Cell) (red : Bool) (left : ℕ) (l : Tree) (at : ℕ) (r : Tree) → IsTree h (Some left) l
      → without_least (fork red l at r) ≡ settled Left red (without_least l) at r
  without_least_over h red left leaf at r w = absurd (none_some left (sym w.root))
  without_least_over h red left (fork red' a m b) at r w = refl

  -- the first node of a left subtree is removed, and the tree settled
  pub take_more : (h h1 h2 : ℕ → Cell) (at left : ℕ) (link root : Option ℕ) (fell_below fell : Bool) (t : Tree)
      → IsTree h (Some at) t → is_sorted lt (nodes_of t) ≡ true → (h at).left ≡ Some left
      → ((u : Tree) → IsOrderedTree lt h (Some left) u → RemovesTo h h1 (nodes_of u) link fell_below (without_least u))
      → Settles lt h1 h2 Left at link root fell_below fell → RemovesTo h h2 (nodes_of t) root fell (without_least t)
  take_more h h1 h2 at left link root fell_below fell t w o e take settle =
      let p = parted strict Left h at t w o in
      let red = (h at).red in
      let tree = rw e at p.near_tree in
      let u = take p.near (record { tree = tree; ordered = p.apart.near_rises }) in
      let least = has_least h left p.near tree in
      let s = settle_below Left h h1 h2 red p.near at p.far (without_least p.near) link root fell_below fell p.holds
      p.order u
      (λ m i. rest_out m (least_of left p.near) (nodes_of p.near) (nodes_of (without_least p.near).tree) least i)
      (rises_rest (nodes_of p.near) (nodes_of (without_least p.near).tree) (nodes_of p.far) at (least_of left p.near)
      least p.order) settle in
      let is : without_least t ≡ settled Left red (without_least p.near) at p.far = ap without_least p.is
      ∙ without_least_over h red left p.near at p.far tree in
      rw is (subst (λ x. RemovesTo h h2 (nodes_of x) root fell (settled Left red (without_least p.near) at p.far))
      (sym p.is) s)
