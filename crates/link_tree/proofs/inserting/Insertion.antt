-- The insertion keeps order, colours and black heights.
use Rattle.std.proofs.Common.{◌≡◌, ℕ, zero, suc, ◌+◌, ◌≤◌, Bool, true, false, not, ◌&&◌, ◌||◌, Option, Some, None, List}
use Rattle.std.proofs.Common.{[], ◌∷◌, ◌++◌, nat_eq, refl, sym, ap, ◌∙◌, inl, inr}
use Rattle.std.specs.List.{list_all}
use Rattle.std.proofs.lemmas.Bool.{true≢false, false≢true, and_parts, and_from, or_cases, or_from, or_parts, eqb-false}
use Rattle.std.proofs.lemmas.Bool.{cases_Bool, eqb-true, ne_eqb, not-true, not_from_false, false_from_ne_true}
use Rattle.link_tree.specs.Tree.{Cell, Tree, leaf, fork, root_of, nodes_of, IsTree, IsSearchTree, is_sorted}
use Rattle.link_tree.specs.Tree.{has_black_root, has_no_red_pair, has_black_height, IsRedBlack, height}
use Rattle.link_tree.specs.Nodes.{is_in, is_ordered_with, insert_in_order, with_left, with_right, with_red}
use Rattle.link_tree.specs.Sides.{opposite, tree_on, child_of, with_child, joined_at, side_of}
use Rattle.link_tree.specs.Turning.{BecomesTree, blackened, flipped, rebalanced, is_red_tree, balanced_red}
use Rattle.link_tree.specs.Turning.{balanced_outer, balanced_inner}
use Rattle.link_tree.specs.Growing.{CanInsert, after_insert}
use Rattle.link_tree.specs.declared.cursor.Side.{Side}
use Rattle.link_tree.specs.declared.cursor.Side.TheVariants.{Left, Right}
use Rattle.link_tree.proofs.trees.OrderedLists.{IsStrict, Splits, rises_split, all_at, all_from, above_more}
use Rattle.link_tree.proofs.trees.Linked.{IsChanged, none_some}
use Rattle.link_tree.proofs.inserting.ChangePoint.{blackened_whole}
use Rattle.link_tree.proofs.trees.OneSided.{fork_joined, Makes, parted, cell_at, with_red-same, with_red-other}
use Rattle.link_tree.proofs.trees.OneSided.{with_child-other, with_child-near, in_near, in_far, in_root, outside_all}
use Rattle.link_tree.proofs.trees.OneSided.{nodes_of-joined, nodes_of-painted, nodes_of-turn}
use Rattle.link_tree.proofs.inserting.Rotations.{graft}
use Rattle.link_tree.proofs.trees.BlackHeights.{blackened_red_black, even_tree, IsEven, IsNearlyEven, red_nearly}
use Rattle.link_tree.proofs.trees.BlackHeights.{rebalanced_even, rebalanced_red, colour_joined, nearly_even, under_red}
use Rattle.link_tree.proofs.trees.BlackHeights.{sides_of_red, sides_of_black}

-- ---- lists

pub put_in_left : (lt : ℕ → ℕ → Bool) (x : ℕ) (xs : List ℕ) (n : ℕ) (ys : List ℕ) → lt x n ≡ true
    → insert_in_order lt x (xs ++ n ∷ ys) ≡ insert_in_order lt x xs ++ n ∷ ys
put_in_left lt x [] n ys e = rw e refl
put_in_left lt x (y ∷ xs) n ys e =
    elim (cases_Bool (lt x y)) [
      | inl a ↦ rw a refl
      | inr a ↦ rw a (ap (λ zs. y ∷ zs) (put_in_left lt x xs n ys e))
    ]

pub put_in_right : (lt : ℕ → ℕ → Bool) (x : ℕ) (xs : List ℕ) (n : ℕ) (ys : List ℕ) → lt x n ≡ false
    → list_all (λ y. not (lt x y)) xs ≡ true → insert_in_order lt x (xs ++ n ∷ ys) ≡ xs ++ n ∷ insert_in_order lt x ys
put_in_right lt x [] n ys e a = rw e refl
put_in_right lt x (y ∷ xs) n ys e a =
    let p = and_parts (not (lt x y)) (list_all (λ y. not (lt x y)) xs) a in
    let f = not-true (lt x y) p.0 in
    rw f (ap (λ zs. y ∷ zs) (put_in_right lt x xs n ys e p.1))

or_swap : (a b c : Bool) → (a || (b || c)) ≡ (b || (a || c))
or_swap true true c = refl
or_swap true false c = refl
or_swap false b c = refl

is_in-put : (lt : ℕ → ℕ → Bool) (x : ℕ) (xs : List ℕ) (m : ℕ)
    → is_in m (insert_in_order lt x xs) ≡ (nat_eq m x || is_in m xs)
is_in-put lt x [] m = refl
is_in-put lt x (y ∷ xs) m =
    elim (cases_Bool (lt x y)) [
      | inl a ↦ rw a refl
      | inr a ↦ rw a (ap (λ b. nat_eq m y || b) (is_in-put lt x xs m) ∙ or_swap (nat_eq m y) (nat_eq m x) (is_in m xs))
    ]

pub put_out : (lt : ℕ → ℕ → Bool) (x : ℕ) (xs : List ℕ) (m : ℕ) → (m ≡ x → ⊥) → is_in m xs ≡ false
    → is_in m (insert_in_order lt x xs) ≡ false
put_out lt x xs m d o = is_in-put lt x xs m ∙ or_from (nat_eq m x) (is_in m xs) (ne_eqb m x d) o

-- a node has its place in each part of a list in which it has one
pub place_part : (lt : ℕ → ℕ → Bool) (x : ℕ) (xs ys : List ℕ) → ((m : ℕ) → is_in m xs ≡ true → is_in m ys ≡ true)
    → is_ordered_with lt x ys ≡ true → is_ordered_with lt x xs ≡ true
place_part lt x xs ys sub p = all_from (λ m. lt x m || lt m x) xs (λ m i. all_at (λ m. lt x m || lt m x) ys m p
    (sub m i))

pub outside_x : (m x : ℕ) (ns : List ℕ) → is_in m (x ∷ ns) ≡ false → (m ≡ x → ⊥) × (is_in m ns ≡ false)
outside_x m x ns i = let p = or_parts (nat_eq m x) (is_in m ns) i in (eqb-false m x p.0, p.1)

-- ---- trees

-- an insertion goes into the near side, which is rebalanced then
pub after_insert-joined : (lt : ℕ → ℕ → Bool) (x : ℕ) (side : Side) (red : Bool) (near : Tree) (n : ℕ) (far : Tree)
    → side_of (lt x n) ≡ side
    → after_insert lt x (joined_at side red near n far)
    ≡ rebalanced side (joined_at side red (after_insert lt x near) n far)
after_insert-joined lt x Left red near n far e = rw e refl
after_insert-joined lt x Right red near n far e = rw e refl

nodes_of-inner : (side : Side) (a : Tree) (m : ℕ) (b : Tree) (n : ℕ) (far : Tree)
    → nodes_of (balanced_inner side a m b n far) ≡ nodes_of (joined_at side false (joined_at side true a m b) n far)
nodes_of-inner side a m leaf n far = refl
nodes_of-inner side a m (fork false p k q) n far = refl
nodes_of-inner side a m (fork true p k q) n far =
    let b = tree_on side p q in
    let c = tree_on (opposite side) p q in
    nodes_of-turn side false true false true (joined_at side false a m b) k c n far
    ∙ nodes_of-joined side false false (joined_at side true a m (fork true p k q))
    (joined_at side true (joined_at side false a m b) k c) n far
    (sym (nodes_of-turn side true false true true a m b k c)
    ∙ ap (λ t. nodes_of (joined_at side true a m t)) (sym (fork_joined side true p k q)))

nodes_of-outer : (side : Side) (a : Tree) (m : ℕ) (b : Tree) (n : ℕ) (far : Tree)
    → nodes_of (balanced_outer side a m b n far) ≡ nodes_of (joined_at side false (joined_at side true a m b) n far)
nodes_of-outer side a m b n far =
    elim (cases_Bool (is_red_tree a)) [
      | inl e ↦ rw e (nodes_of-joined side true true a (blackened a) m (joined_at side false b n far)
          (nodes_of-painted false a) ∙ nodes_of-turn side false true false true a m b n far)
      | inr e ↦ rw e (nodes_of-inner side a m b n far)
    ]

nodes_of-flipped : (t : Tree) → nodes_of (flipped t) ≡ nodes_of t
nodes_of-flipped leaf = refl
nodes_of-flipped (fork red l n r) = rw (nodes_of-painted false l, nodes_of-painted false r) refl

nodes_of-red : (side : Side) (a : Tree) (m : ℕ) (b : Tree) (n : ℕ) (far : Tree)
    → nodes_of (balanced_red side a m b n far) ≡ nodes_of (joined_at side false (joined_at side true a m b) n far)
nodes_of-red side a m b n far =
    elim (cases_Bool ((is_red_tree a || is_red_tree b) && is_red_tree far)) [
      | inl e ↦ rw e (nodes_of-flipped (joined_at side false (joined_at side true a m b) n far))
      | inr e ↦ rw e (nodes_of-outer side a m b n far)
    ]

-- rebalancing keeps the nodes and their order
pub nodes_of-rebalanced : (side : Side) (red : Bool) (near : Tree) (n : ℕ) (far : Tree)
    → nodes_of (rebalanced side (joined_at side red near n far)) ≡ nodes_of (joined_at side red near n far)
nodes_of-rebalanced Left true near n far = refl
nodes_of-rebalanced Right true near n far = refl
nodes_of-rebalanced Left false leaf n far = refl
nodes_of-rebalanced Left false (fork false l m r) n far = refl
nodes_of-rebalanced Left false (fork true l m r) n far = nodes_of-red Left l m r n far
nodes_of-rebalanced Right false leaf n far = refl
nodes_of-rebalanced Right false (fork false l m r) n far = refl
nodes_of-rebalanced Right false (fork true l m r) n far = nodes_of-red Right r m l n far

module _ (lt : ℕ → ℕ → Bool) (transitive : (a b c : ℕ) → lt a b ≡ true → lt b c ≡ true → lt a c ≡ true) where
  -- a list that a node is put into stays sorted
  pub rises_put : (x : ℕ) (xs : List ℕ) → is_sorted lt xs ≡ true → is_ordered_with lt x xs ≡ true
      → is_sorted lt (insert_in_order lt x xs) ≡ true
  rises_put x [] o p = refl
  rises_put x (y ∷ ys) o p =
      let q = and_parts (list_all (lt y) ys) (is_sorted lt ys) o in
      let k = and_parts (lt x y || lt y x) (is_ordered_with lt x ys) p in
      elim (cases_Bool (lt x y)) [
        | inl a ↦ rw a (and_from (lt x y && list_all (lt x) ys) (list_all (lt y) ys && is_sorted lt ys)
            (and_from (lt x y) (list_all (lt x) ys) a (above_more lt transitive x y ys a q.0)) o)
        | inr a ↦
            let b : lt y x ≡ true =
            elim (or_cases (lt x y) (lt y x) k.0) [ inl c ↦ absurd (true≢false (sym c ∙ a)) | inr c ↦ c ] in
            rw a (and_from (list_all (lt y) (insert_in_order lt x ys)) (is_sorted lt (insert_in_order lt x ys))
            (all_from (lt y) (insert_in_order lt x ys)
            (λ m i. elim (or_cases (nat_eq m x) (is_in m ys) (sym (is_in-put lt x ys m) ∙ i)) [
              | inl e ↦ rw (eqb-true m x e) b
              | inr j ↦ all_at (lt y) ys m q.0 j
            ]))
            (rises_put x ys q.1 k.1))
      ]

module _ {lt : ℕ → ℕ → Bool} (strict : IsStrict lt) where
  after_insert-nodes_left : (x : ℕ) (red : Bool) (l : Tree) (n : ℕ) (r : Tree) → lt x n ≡ true
      → nodes_of (after_insert lt x l) ≡ insert_in_order lt x (nodes_of l)
      → nodes_of (after_insert lt x (fork red l n r)) ≡ insert_in_order lt x (nodes_of (fork red l n r))
  after_insert-nodes_left x red l n r e more =
      ap nodes_of (after_insert-joined lt x Left red l n r (ap side_of e))
      ∙ nodes_of-rebalanced Left red (after_insert lt x l) n r
      ∙ ap (λ zs. zs ++ n ∷ nodes_of r) more ∙ sym (put_in_left lt x (nodes_of l) n (nodes_of r) e)

  after_insert-nodes_right : (x : ℕ) (red : Bool) (l : Tree) (n : ℕ) (r : Tree) → lt x n ≡ false
      → Splits lt (nodes_of l) n (nodes_of r) → nodes_of (after_insert lt x r) ≡ insert_in_order lt x (nodes_of r)
      → nodes_of (after_insert lt x (fork red l n r)) ≡ insert_in_order lt x (nodes_of (fork red l n r))
  after_insert-nodes_right x red l n r e s more =
      let behind : list_all (λ y. not (lt x y)) (nodes_of l) ≡ true = all_from (λ y. not (lt x y)) (nodes_of l)
      (λ m i. not_from_false (lt x m) (false_from_ne_true (lt x m)
      (λ k. true≢false (sym (strict.transitive x m n k (all_at (λ z. lt z n) (nodes_of l) m s.below i)) ∙ e)))) in
      ap nodes_of (after_insert-joined lt x Right red r n l (ap side_of e))
      ∙ nodes_of-rebalanced Right red (after_insert lt x r) n l
      ∙ ap (λ zs. nodes_of l ++ n ∷ zs) more ∙ sym (put_in_right lt x (nodes_of l) n (nodes_of r) e behind)

  -- the nodes after an insertion are the old nodes with the new one inserted
  pub nodes_of-after_insert : (x : ℕ) (t : Tree) → is_sorted lt (nodes_of t) ≡ true
      → nodes_of (after_insert lt x t) ≡ insert_in_order lt x (nodes_of t)
  nodes_of-after_insert x leaf o = refl
  nodes_of-after_insert x (fork red l n r) o =
      let s = rises_split lt (nodes_of l) n (nodes_of r) o in
      elim (cases_Bool (lt x n)) [
        | inl e ↦ after_insert-nodes_left x red l n r e (nodes_of-after_insert x l s.left)
        | inr e ↦ after_insert-nodes_right x red l n r e s (nodes_of-after_insert x r s.right)
      ]

-- ---- colours

-- the result of an insertion into a tree with no red pair
pub record IsGrownEven (t t' : Tree) (b : ℕ) : Type 0 where
  pub nearly : IsNearlyEven t' b
  pub even : has_black_root t ≡ true → has_no_red_pair t' ≡ true

grown_red : (side : Side) (near near' : Tree) (n : ℕ) (far : Tree) (b : ℕ) → IsGrownEven near near' b → IsEven far b
    → has_black_root near ≡ true
    → IsGrownEven (joined_at side true near n far) (rebalanced side (joined_at side true near' n far)) b
grown_red side near near' n far b e f k =
    let even : IsEven near' b = record { no_red_pair = e.even k; black = e.nearly.black } in
    rw rebalanced_red (record {
      nearly = red_nearly side near' n far b even f;
      even = λ q. absurd (true≢false (sym q ∙ colour_joined side true near n far));
    })

grown_black : (side : Side) (near near' : Tree) (n : ℕ) (far : Tree) (b : ℕ) → IsGrownEven near near' b → IsEven far b
    → IsGrownEven (joined_at side false near n far) (rebalanced side (joined_at side false near' n far)) (suc b)
grown_black side near near' n far b e f =
    let even = rebalanced_even side near' n far b e.nearly f in
    record {
      nearly = nearly_even (rebalanced side (joined_at side false near' n far)) (suc b) even;
      even = λ q.
          even.no_red_pair;
    }

module _ (lt : ℕ → ℕ → Bool) (x : ℕ) where
  -- an insertion keeps black heights even but for the root
  pub grown_even : (t : Tree) (b : ℕ) → IsEven t b → IsGrownEven t (after_insert lt x t) b
  grown_even leaf b e =
      record {
        nearly = record {
          children = refl;
          black = and_from (has_black_height leaf b) (has_black_height leaf b) e.black e.black;
        };
        even = λ q. refl;
      }
  grown_even (fork true l n r) b e =
      let u = under_red l n r e.no_red_pair in
      let s = sides_of_red Left l n r b (u.nearly n b e.black) in
      let gl = grown_even l b s.near_even in
      let gr = grown_even r b s.far_even in
      elim (cases_Bool (lt x n)) [
        | inl k ↦ rw k (grown_red Left l (after_insert lt x l) n r b gl s.far_even u.left_root)
        | inr k ↦ rw k (grown_red Right r (after_insert lt x r) n l b gr s.near_even u.right_root)
      ]
  grown_even (fork false l n r) zero e = absurd (false≢true e.black)
  grown_even (fork false l n r) (suc b) e =
      let s = sides_of_black Left l n r b e in
      let gl = grown_even l b s.near_even in
      let gr = grown_even r b s.far_even in
      elim (cases_Bool (lt x n)) [
        | inl k ↦ rw k (grown_black Left l (after_insert lt x l) n r b gl s.far_even)
        | inr k ↦ rw k (grown_black Right r (after_insert lt x r) n l b gr s.near_even)
      ]

  -- with its root made black, the tree is red-black again
  pub grown_red_black : (t : Tree) → IsRedBlack t → IsRedBlack (blackened (after_insert lt x t))
  grown_red_black t k =
      let e = grown_even t k.black.0 (even_tree t k) in
      blackened_red_black (after_insert lt x t) k.black.0 e.nearly (λ q. e.even k.root)

-- ---- cells

-- the tree at a node is rebalanced, where a tree below the node grew
abbrev pub Rebalances : (lt : ℕ → ℕ → Bool) (h h2 h3 : ℕ → Cell) (side : Side) (x at result : ℕ) → Type 0
Rebalances lt h h2 h3 side x at result =
    (u far : Tree) (red : Bool) → CanInsert lt h (child_of side (h at)) x u
    → IsTree h2 (Some at) (joined_at side red (after_insert lt x u) at far)
    → is_sorted lt (nodes_of (joined_at side red (after_insert lt x u) at far)) ≡ true
    → BecomesTree h2 h3 (nodes_of (joined_at side red (after_insert lt x u) at far)) (Some result)
    (rebalanced side (joined_at side red (after_insert lt x u) at far))

module _ {lt : ℕ → ℕ → Bool} (strict : IsStrict lt) where
  -- a node that has its place beside another is another
  pub placed_apart : (x : ℕ) (ns : List ℕ) (m : ℕ) → is_ordered_with lt x ns ≡ true → is_in m ns ≡ true → m ≡ x → ⊥
  placed_apart x ns m p i e =
      let k = all_at (λ n. lt x n || lt n x) ns m p i in
      elim (or_cases (lt x m) (lt m x) k) [
        | inl a ↦ let a' : lt x x ≡ true = rw e at a in true≢false (sym a' ∙ strict.irreflexive x)
        | inr a ↦ let a' : lt x x ≡ true = rw e at a in true≢false (sym a' ∙ strict.irreflexive x)
      ]

  -- a node that differs from one more is not in the longer list
  pub out_of : (m x : ℕ) (ns : List ℕ) → (m ≡ x → ⊥) → is_in m ns ≡ false → is_in m (x ∷ ns) ≡ false
  out_of m x ns d o = or_from (nat_eq m x) (is_in m ns) (ne_eqb m x d) o

  -- the tree below grew: so does the tree
  pub grow_step : (side : Side) (h h1 h2 h3 : ℕ → Cell) (x at : ℕ) (child result : ℕ) (t : Tree)
      → side_of (lt x at) ≡ side → CanInsert lt h (Some at) x t
      → ((u : Tree) → CanInsert lt h (child_of side (h at)) x u
      → BecomesTree h h1 (x ∷ nodes_of u) (Some child) (after_insert lt x u))
      → h2 ≡ with_child side h1 at (Some child) → Rebalances lt h h2 h3 side x at result
      → BecomesTree h h3 (x ∷ nodes_of t) (Some result) (after_insert lt x t)
  grow_step side h h1 h2 h3 x at child result t before w below set balance =
      let o = parted strict side h at t w.tree w.ordered in
      let red = (h at).red in
      let old = joined_at side red o.near at o.far in
      let order = o.order in
      let apart = o.apart in
      let placed : is_ordered_with lt x (nodes_of old) ≡ true = rw o.is at w.placed in
      let near_placed = place_part lt x (nodes_of o.near) (nodes_of old) (in_near side red o.near at o.far) placed in
      let new = after_insert lt x o.near in
      let can : CanInsert lt h (child_of side (h at)) x o.near =
      record { tree = o.near_tree; ordered = apart.near_rises; placed = near_placed } in
      let u = below o.near can in
      let new_nodes = nodes_of-after_insert strict x o.near apart.near_rises in
      let at_x = placed_apart x (nodes_of old) at placed (in_root side red o.near at o.far) in
      let far_x : (m : ℕ) → is_in m (nodes_of o.far) ≡ true → m ≡ x → ⊥ = λ m i. placed_apart x (nodes_of old) m placed
      (in_far side red o.near at o.far m i) in
      let set_at : (m : ℕ) → h2 m ≡ with_child side h1 at (Some child) m = λ m. ap (λ (f : ℕ → Cell). f m) set in
      let at_out = out_of at x (nodes_of o.near) at_x apart.not_near in
      let cell = set_at at ∙ with_child-near side h1 at red (root_of o.near) (root_of o.far) (Some child)
      (u.frame at at_out ∙ o.joint.cell) in
      let rest : (m : ℕ) → (m ≡ at → ⊥) → h2 m ≡ h1 m = λ m d. set_at m
      ∙ with_child-other side h1 at m (Some child) d in
      let grafted = graft side h h1 h2 red o.near new at o.far (Some child) (x ∷ nodes_of o.near) o.holds u at_out
      (λ m i. out_of m x (nodes_of o.near) (far_x m i) (apart.near_of_far m i))
      (ap (is_in at) new_nodes ∙ put_out lt x (nodes_of o.near) at at_x apart.not_near) apart.not_far cell rest in
      let is_grown : after_insert lt x t ≡ rebalanced side (joined_at side red new at o.far) =
      ap (λ v. after_insert lt x v) o.is
      ∙ after_insert-joined lt x side red o.near at o.far before in
      let grown_nodes : nodes_of (joined_at side red new at o.far) ≡ insert_in_order lt x (nodes_of old) =
      sym (nodes_of-rebalanced side red new at o.far)
      ∙ ap nodes_of (sym (after_insert-joined lt x side red o.near at o.far before))
      ∙ nodes_of-after_insert strict x old order in
      let new_order : is_sorted lt (nodes_of (joined_at side red new at o.far)) ≡ true = ap (is_sorted lt) grown_nodes
      ∙ rises_put lt strict.transitive x (nodes_of old) order placed in
      let turned = balance o.near o.far red can grafted new_order in
      record {
        tree = rw is_grown turned.tree;
        frame = λ m i.
            let p = outside_x m x (nodes_of t) i in
            let out_old : is_in m (nodes_of old) ≡ false = ap (λ v. is_in m (nodes_of v)) (sym o.is) ∙ p.1 in
            let out = outside_all side red o.near at o.far m out_old in
            turned.frame m (ap (is_in m) grown_nodes ∙ put_out lt x (nodes_of old) m p.0 out_old) ∙ rest m out.root_out
            ∙ u.frame m (out_of m x (nodes_of o.near) p.0 out.near_out);
      }

-- a node alone
pub lay_step : (h h1 h2 h3 : ℕ → Cell) (n : ℕ) (red : Bool) → h1 ≡ with_left h n None → h2 ≡ with_right h1 n None
    → h3 ≡ with_red h2 n red → BecomesTree h h3 (n ∷ []) (Some n) (fork red leaf n leaf)
lay_step h h1 h2 h3 n red e1 e2 e3 =
    let c1 : h1 n ≡ cell_at Left (h n).red None (h n).right = ap (λ (f : ℕ → Cell). f n) e1
    ∙ with_child-near Left h n (h n).red (h n).left (h n).right None refl in
    let c2 : h2 n ≡ cell_at Right (h n).red None None = ap (λ (f : ℕ → Cell). f n) e2
    ∙ with_child-near Right h1 n (h n).red (h n).right None None c1 in
    record {
      tree = record {
        root = refl;
        holds = (
          ap (λ (f : ℕ → Cell). f n) e3 ∙ with_red-same h2 n (h n).red red None None c2,
          tt,
          tt,
        );
      };
      frame = λ m i.
          let d = (outside_x m n [] i).0 in
          ap (λ (f : ℕ → Cell). f m) e3 ∙ with_red-other h2 n m red d
          ∙ ap (λ (f : ℕ → Cell). f m) e2 ∙ with_child-other Right h1 n m None d
          ∙ ap (λ (f : ℕ → Cell). f m) e1 ∙ with_child-other Left h n m None d;
    }

-- a red node alone is the tree that an insertion behind no link makes
pub leaf_grown : (lt : ℕ → ℕ → Bool) (h h1 : ℕ → Cell) (x : ℕ) (link : Option ℕ) → link ≡ None
    → BecomesTree h h1 (x ∷ []) (Some x) (fork true leaf x leaf) → (u : Tree) → CanInsert lt h link x u
    → BecomesTree h h1 (x ∷ nodes_of u) (Some x) (after_insert lt x u)
leaf_grown lt h h1 x link e b leaf w = b
leaf_grown lt h h1 x link e b (fork red l n r) w = absurd (none_some n (sym e ∙ w.tree.root))

-- it has no red pair
pub leaf_even : (lt : ℕ → ℕ → Bool) (h : ℕ → Cell) (x : ℕ) (link : Option ℕ) → link ≡ None → (u : Tree)
    → CanInsert lt h link x u → has_no_red_pair (after_insert lt x u) ≡ true
leaf_even lt h x link e leaf w = refl
leaf_even lt h x link e (fork red l n r) w = absurd (none_some n (sym e ∙ w.tree.root))

-- a black node alone is the tree after an insertion into an empty one
pub laid : {lt : ℕ → ℕ → Bool} (lt' : ℕ → ℕ → Bool) (h h1 : ℕ → Cell) (root : Option ℕ) (x : ℕ) (t : Tree)
    → root ≡ None → IsSearchTree lt h root t → BecomesTree h h1 (x ∷ []) (Some x) (fork false leaf x leaf)
    → IsChanged lt' h h1 (Some x) (x ∷ nodes_of t) (insert_in_order lt x (nodes_of t))
laid lt' h h1 root x leaf e k b = record {
  tree = (
    fork false leaf x leaf,
    record {
      tree = b.tree;
      ordered = refl;
      red_black = record { root = refl; no_red_pair = refl; black = (1, refl) };
    },
    refl,
  );
  frame = b.frame;
}
laid lt' h h1 root x (fork red l n r) e k b = absurd (none_some n (sym e ∙ k.tree.root))

-- the tree below a node, where another node is to go
pub record GrowsBelow (lt : ℕ → ℕ → Bool) (h : ℕ → Cell) (side : Side) (at x : ℕ) (t : Tree) : Type 0 where
  pub tree : Tree
  pub grows : CanInsert lt h (child_of side (h at)) x tree
  pub lower : height tree + 1 ≤ height t
  pub apart : at ≡ x → ⊥

-- an insertion below a node is done by the same steps
pub grows_below : {lt : ℕ → ℕ → Bool} → IsStrict lt → (side : Side) (h : ℕ → Cell) (x at : ℕ) (t : Tree)
    → CanInsert lt h (Some at) x t → GrowsBelow lt h side at x t
grows_below {lt = lt} strict side h x at t w =
    let o = parted strict side h at t w.tree w.ordered in
    let old = joined_at side (h at).red o.near at o.far in
    let placed : is_ordered_with lt x (nodes_of old) ≡ true = rw o.is at w.placed in
    record {
      tree = o.near;
      grows = record {
        tree = o.near_tree;
        ordered = o.apart.near_rises;
        placed = place_part lt x (nodes_of o.near) (nodes_of old) (in_near side (h at).red o.near at o.far) placed;
      };
      lower = o.lower;
      apart = placed_apart strict x (nodes_of old) at placed (in_root side (h at).red o.near at o.far);
    }

-- only the cells of the tree's nodes and of the inserted node change
pub frame_beside : {lt : ℕ → ℕ → Bool} {h h' : ℕ → Cell} {root : Option ℕ} {x : ℕ} {ns ms : List ℕ}
    → IsChanged lt h h' root (x ∷ ns) ms → (m : ℕ) → (m ≡ x → ⊥) → is_in m ns ≡ false → h' m ≡ h m
frame_beside {x = x} {ns = ns} c m d o = c.frame m (or_from (nat_eq m x) (is_in m ns) (ne_eqb m x d) o)

-- the whole insertion, its root made black
pub inserted : {lt : ℕ → ℕ → Bool} → IsStrict lt → (h h1 h2 : ℕ → Cell) (root : Option ℕ) (x top : ℕ) (t : Tree)
    → IsSearchTree lt h root t → is_ordered_with lt x (nodes_of t) ≡ true
    → BecomesTree h h1 (x ∷ nodes_of t) (Some top) (after_insert lt x t)
    → Makes lt h1 h2 (Some top) (Some top) blackened
    → IsChanged lt h h2 (Some top) (x ∷ nodes_of t) (insert_in_order lt x (nodes_of t))
inserted {lt = lt} strict h h1 h2 root x top t k p g black =
    blackened_whole h h1 h2 (Some top) (after_insert lt x t) (x ∷ nodes_of t) (insert_in_order lt x (nodes_of t)) g
    black (grown_red_black lt x t k.red_black) (nodes_of-after_insert strict x t k.ordered)
    (rises_put lt strict.transitive x (nodes_of t) k.ordered p)
    (λ m i. let out = outside_x m x (nodes_of t) i in put_out lt x (nodes_of t) m out.0 out.1)
