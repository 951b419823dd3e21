-- A removal of the root, or of a node below it, and the blackening of the new root.
use Rattle.std.proofs.Common.{◌≡◌, ℕ, Bool, true, false, Option, Some, [], ◌∷◌, ◌++◌, nat_eq, refl, sym, ap, ◌∙◌}
use Rattle.std.proofs.Common.{inl, inr, subst}
use Rattle.std.proofs.lemmas.Bool.{eqb-false, ne_eqb, or_parts, cases_Bool}
use Rattle.link_tree.specs.Tree.{Cell, Tree, leaf, fork, nodes_of, IsTree, IsSearchTree, is_sorted}
use Rattle.link_tree.specs.Nodes.{is_in, with_left, with_red, without}
use Rattle.link_tree.specs.Sides.{child_of, joined_at, side_of}
use Rattle.link_tree.specs.Turning.{blackened}
use Rattle.link_tree.specs.Shrinking.{IsOrderedTree, RemovesTo, settled, least_of, without_least, without_root}
use Rattle.link_tree.specs.Shrinking.{uprooted, after_remove}
use Rattle.link_tree.specs.declared.cursor.Side.{Side}
use Rattle.link_tree.specs.declared.cursor.Side.TheVariants.{Left, Right}
use Rattle.link_tree.proofs.trees.OrderedLists.{IsStrict, in_middle}
use Rattle.link_tree.proofs.inserting.ChangePoint.{blackened_whole}
use Rattle.link_tree.proofs.trees.Linked.{IsChanged, tree_same, none_some}
use Rattle.link_tree.proofs.trees.OneSided.{Makes, parted, with_child-other, with_child-near, with_red-other}
use Rattle.link_tree.proofs.trees.OneSided.{with_red-same, outside_all, other_than}
use Rattle.link_tree.proofs.removing.Removal.{without_out, rises_without, rises_skip, nodes_of-after_remove}
use Rattle.link_tree.proofs.removing.Removal.{nodes_of-settled, shrunk_red_black}
use Rattle.link_tree.proofs.removing.LeastRemoval.{Settles, outside_join, right_left, settle_below, apart_head}
use Rattle.link_tree.proofs.removing.LeastRemoval.{has_least}

module _ {lt : ℕ → ℕ → Bool} (strict : IsStrict lt) where
  -- ---- a tree without its root

  without_root_over : (h : ℕ → Cell) (red : Bool) (right : ℕ) (l r : Tree) → IsTree h (Some right) r
      → without_root red l r ≡ settled Right red (without_least r) (least_of right r) l
  without_root_over h red right l leaf w = absurd (none_some right (sym w.root))
  without_root_over h red right l (fork red' a m b) w = refl

  -- the root of a tree is removed: the first node of its right side takes its place
  pub uproot_more : (h h1 h2 h3 h4 : ℕ → Cell) (at right next : ℕ) (link root : Option ℕ) (fell_below fell : Bool)
      (t : Tree) → IsTree h (Some at) t → is_sorted lt (nodes_of t) ≡ true → (h at).right ≡ Some right
      → ((u : Tree) → IsOrderedTree lt h (Some right) u → next ≡ least_of right u)
      → ((u : Tree) → IsOrderedTree lt h (Some right) u → RemovesTo h h1 (nodes_of u) link fell_below (without_least u))
      → h2 ≡ with_left h1 next (h at).left → h3 ≡ with_red h2 next (h at).red
      → Settles lt h3 h4 Right next link root fell_below fell → RemovesTo h h4 (nodes_of t) root fell (uprooted t)
  uproot_more h h1 h2 h3 h4 at right next link root fell_below fell t w o e is_next take s2 s3 settle =
      let p = parted strict Left h at t w o in
      let red = (h at).red in
      let l = p.near in
      let r = p.far in
      let apart = p.apart in
      let r_tree = rw e at p.far_tree in
      let shrinks : IsOrderedTree lt h (Some right) r = record { tree = r_tree; ordered = apart.far_rises } in
      let u = take r shrinks in
      let left_over = (without_least r).tree in
      let least = has_least strict h right r r_tree in
      let nodes_r : nodes_of r ≡ next ∷ nodes_of left_over = least
      ∙ ap (λ x. x ∷ nodes_of left_over) (sym (is_next r shrinks)) in
      let next_in : is_in next (nodes_of r) ≡ true = ap (is_in next) nodes_r ∙ in_middle [] next (nodes_of left_over) in
      let r_order : is_sorted lt (next ∷ nodes_of left_over) ≡ true =
      ap (is_sorted lt) (sym nodes_r) ∙ apart.far_rises in
      let next_out : is_in next (nodes_of left_over) ≡ false = apart_head strict next (nodes_of left_over) r_order in
      let next_not_left : is_in next (nodes_of l) ≡ false = apart.near_of_far next next_in in
      let rest : (m : ℕ) → (m ≡ next → ⊥) → h3 m ≡ h1 m =
      λ m d. ap (λ (f : ℕ → Cell). f m) s3 ∙ with_red-other h2 next m red d ∙ ap (λ (f : ℕ → Cell). f m) s2
      ∙ with_child-other Left h1 next m (h at).left d in
      let cell2 : h2 next ≡ record { left = (h at).left; right = (h1 next).right; red = (h1 next).red } =
      ap (λ (f : ℕ → Cell). f next) s2 ∙ with_child-near Left h1 next (h1 next).red (h1 next).left (h1 next).right
      (h at).left refl in
      let cell3 : h3 next ≡ record { left = (h at).left; right = (h1 next).right; red = red } =
      ap (λ (f : ℕ → Cell). f next) s3 ∙ with_red-same h2 next (h1 next).red red (h at).left (h1 next).right cell2 in
      let is_red : (h3 next).red ≡ red = ap (λ (c : Cell). c.red) cell3 in
      let is_left : (h3 next).left ≡ (h at).left = ap (λ (c : Cell). c.left) cell3 in
      let near3 : IsTree h3 link left_over =
      tree_same h1 h3 link left_over (λ m i. rest m (other_than m next (nodes_of left_over) i next_out))
      u.turned.tree in
      let far3 : IsTree h3 (h at).left l = tree_same h h3 (h at).left l
      (λ m i. rest m (other_than m next (nodes_of l) i next_not_left) ∙ u.turned.frame m (apart.far_of_near m i))
      p.near_tree in
      let joined_order : is_sorted lt (nodes_of l ++ next ∷ nodes_of left_over) ≡ true =
      ap (λ x. is_sorted lt (nodes_of l ++ x)) (sym nodes_r) ∙ rises_skip lt (nodes_of l) at (nodes_of r) p.order in
      let far3' : IsTree h3 (h3 next).left l = subst (λ (k : Option ℕ). IsTree h3 k l) (sym is_left) far3 in
      let first = settle left_over l near3 far3' joined_order in
      let second = subst (λ (c : Bool). RemovesTo h3 h4 (nodes_of (joined_at Right c left_over next l)) root fell
      (settled Right c (record { tree = left_over; fell = fell_below }) next l)) is_red first in
      let s = subst (λ (f : Bool). RemovesTo h3 h4 (nodes_of (joined_at Right red left_over next l)) root fell
      (settled Right red (record { tree = left_over; fell = f }) next l)) u.fallen second in
      let is_rest : uprooted t ≡ settled Right red (without_least r) next l =
      ap uprooted p.is ∙ without_root_over h red right l r r_tree ∙ ap (λ x. settled Right red (without_least r) x l)
      (sym (is_next r shrinks)) in
      rw is_rest (record {
        turned = record {
          tree = s.turned.tree;
          frame = λ m i.
              let out = outside_all Left red l at r m (subst (λ x. is_in m (nodes_of x) ≡ false) p.is i) in
              let q = or_parts (nat_eq m next) (is_in m (nodes_of left_over)) (ap (is_in m) (sym nodes_r)
              ∙ out.far_out) in
              let d = eqb-false m next q.0 in
              s.turned.frame m (outside_join Right red left_over next l m q.1 d out.near_out) ∙ rest m d
              ∙ u.turned.frame m out.far_out;
        };
        fallen = s.fallen;
      })

  -- ---- a tree without a node

  -- a removal goes into the near side, which is settled then
  pub after_remove-joined : (x : ℕ) (side : Side) (red : Bool) (near : Tree) (n : ℕ) (far : Tree) → nat_eq n x ≡ false
      → side_of (lt x n) ≡ side
      → after_remove lt x (joined_at side red near n far) ≡ settled side red (after_remove lt x near) n far
  after_remove-joined x Left red near n far d e = elim (cases_Bool (lt x n)) [
    | inl k ↦ rw (d, k) refl
    | inr k ↦ absurd (right_left (ap side_of (sym k) ∙ e))
  ]
  after_remove-joined x Right red near n far d e = elim (cases_Bool (lt x n)) [
    | inl k ↦ absurd (right_left (sym (ap side_of (sym k) ∙ e)))
    | inr k ↦ rw (d, k) refl
  ]

  -- a step of a removal into a side, with what it does to cells
  pub cut_step : (side : Side) (h h1 h2 : ℕ → Cell) (x at : ℕ) (link root : Option ℕ) (fell_below fell : Bool)
      (t : Tree) → (at ≡ x → ⊥) → side_of (lt x at) ≡ side → IsOrderedTree lt h (Some at) t
      → ((u : Tree) → IsOrderedTree lt h (child_of side (h at)) u
      → RemovesTo h h1 (nodes_of u) link fell_below (after_remove lt x u))
      → Settles lt h1 h2 side at link root fell_below fell → RemovesTo h h2 (nodes_of t) root fell (after_remove lt x t)
  cut_step side h h1 h2 x at link root fell_below fell t d e w cut settle =
      let p = parted strict side h at t w.tree w.ordered in
      let red = (h at).red in
      let u = cut p.near (record { tree = p.near_tree; ordered = p.apart.near_rises }) in
      let nodes = nodes_of-after_remove strict x p.near p.apart.near_rises in
      let other = ne_eqb at x d in
      let whole = nodes_of-after_remove strict x (joined_at side red p.near at p.far) p.order in
      let is_joined = after_remove-joined x side red p.near at p.far other e in
      let o' : is_sorted lt (nodes_of (joined_at side red (after_remove lt x p.near).tree at p.far)) ≡ true =
      ap (is_sorted lt) (sym (nodes_of-settled side red (after_remove lt x p.near) at p.far)
      ∙ ap (λ r. nodes_of r.tree) (sym is_joined) ∙ whole)
      ∙ rises_without lt x (nodes_of (joined_at side red p.near at p.far)) p.order in
      let s = settle_below strict side h h1 h2 red p.near at p.far (after_remove lt x p.near) link root fell_below fell
      p.holds p.order u (λ m i. ap (is_in m) nodes ∙ without_out x (nodes_of p.near) m i) o' settle in
      let is : after_remove lt x t ≡ settled side red (after_remove lt x p.near) at p.far =
      ap (after_remove lt x) p.is ∙ is_joined in
      rw is (subst (λ v. RemovesTo h h2 (nodes_of v) root fell (settled side red (after_remove lt x p.near) at p.far))
      (sym p.is) s)

  -- ---- the whole removal, its root made black

  -- a removal with its last step, the black root, makes a search tree
  pub removed : (h h1 h2 : ℕ → Cell) (root link : Option ℕ) (fell : Bool) (x : ℕ) (t : Tree)
      → IsSearchTree lt h root t → RemovesTo h h1 (nodes_of t) link fell (after_remove lt x t)
      → Makes lt h1 h2 link link blackened → IsChanged lt h h2 link (nodes_of t) (without x (nodes_of t))
  removed h h1 h2 root link fell x t k u black =
      blackened_whole h h1 h2 link (after_remove lt x t).tree (nodes_of t) (without x (nodes_of t)) u.turned
      black
      (shrunk_red_black lt x t k.red_black) (nodes_of-after_remove strict x t k.ordered)
      (rises_without lt x (nodes_of t) k.ordered) (without_out x (nodes_of t))
