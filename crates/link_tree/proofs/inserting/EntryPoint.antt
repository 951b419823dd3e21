-- Above the node where an insertion begins nothing changes.
use Rattle.std.proofs.Common.{◌≡◌, ℕ, Bool, true, false, not, Option, Some, None, [], ◌∷◌, refl, sym, ap, ◌∙◌, subst}
use Rattle.std.proofs.Common.{inl, inr}
use Rattle.std.proofs.lemmas.Bool.{true≢false, cases_Bool}
use Rattle.link_tree.specs.Tree.{Cell, Tree, leaf, fork, root_of, nodes_of, AreCellsOf, IsTree, IsSearchTree}
use Rattle.link_tree.specs.Tree.{is_sorted, has_black_root, has_no_red_pair}
use Rattle.link_tree.specs.Nodes.{is_in, is_ordered_with, insert_in_order}
use Rattle.link_tree.specs.Sides.{child_of, joined_at, side_of}
use Rattle.link_tree.specs.Turning.{BecomesTree, rebalanced}
use Rattle.link_tree.specs.Growing.{CanInsert, after_insert}
use Rattle.link_tree.specs.Ways.{insert_point_of, entry_over}
use Rattle.link_tree.specs.declared.cursor.Side.{Side}
use Rattle.link_tree.specs.declared.cursor.Side.TheVariants.{Left, Right}
use Rattle.link_tree.proofs.trees.OrderedLists.{IsStrict}
use Rattle.link_tree.proofs.inserting.Rotations.{red_same}
use Rattle.link_tree.proofs.trees.Linked.{IsChanged, some_same, none_some, one_tree}
use Rattle.link_tree.proofs.inserting.ChangePoint.{Begins, begins_deeper, begins_here, begun}
use Rattle.link_tree.proofs.trees.OneSided.{joint_of, apart_of, in_near, child_of_cell}
use Rattle.link_tree.proofs.trees.BlackHeights.{even_tree, IsEven, IsEvenFork, even_fork, under_red, rebalanced_red}
use Rattle.link_tree.proofs.inserting.Insertion.{grown_even, after_insert-joined, nodes_of-after_insert, rises_put}
use Rattle.link_tree.proofs.inserting.Insertion.{placed_apart, Rebalances, place_part, out_of}

-- ---- balancing where there is no red pair

-- under a black root a tree without a red pair stays as it is
black_same : (side : Side) (near : Tree) (n : ℕ) (far : Tree) → has_no_red_pair near ≡ true
    → rebalanced side (joined_at side false near n far) ≡ joined_at side false near n far
black_same Left leaf n far e = refl
black_same Right leaf n far e = refl
black_same Left (fork false l m r) n far e = refl
black_same Right (fork false l m r) n far e = refl
black_same Left (fork true l m r) n far e = let u = under_red l m r e in red_same Left l m r n far u.left_root
    u.right_root
black_same Right (fork true l m r) n far e = let u = under_red l m r e in red_same Right r m l n far u.right_root
    u.left_root

balance_same : (side : Side) (red : Bool) (near : Tree) (n : ℕ) (far : Tree) → has_no_red_pair near ≡ true
    → rebalanced side (joined_at side red near n far) ≡ joined_at side red near n far
balance_same side true near n far e = rebalanced_red side near n far
balance_same side false near n far e = black_same side near n far e

-- ---- colours

parts_of : (side : Side) (red : Bool) (near : Tree) (n : ℕ) (far : Tree) (b : ℕ)
    → IsEven (joined_at side red near n far) b → IsEvenFork red near far b
parts_of Left red near n far b e = even_fork red near n far b e
parts_of Right red near n far b e =
    let p = even_fork red far n near b e in
    record {
      below = p.below;
      is = p.is;
      left_even = p.right_even;
      right_even = p.left_even;
      left_root = p.right_root;
      right_root = p.left_root;
    }

no_pair_joined : (side : Side) (red : Bool) (near : Tree) (n : ℕ) (far : Tree)
    → (red ≡ true → has_black_root near ≡ true) → (red ≡ true → has_black_root far ≡ true)
    → has_no_red_pair near ≡ true → has_no_red_pair far ≡ true → has_no_red_pair (joined_at side red near n far) ≡ true
no_pair_joined Left true near n far a b c d =
    let k = a refl in
    let m = b refl in
    rw (k, m, c, d) refl
no_pair_joined Left false near n far a b c d = rw (c, d) refl
no_pair_joined Right true near n far a b c d =
    let k = a refl in
    let m = b refl in
    rw (k, m, c, d) refl
no_pair_joined Right false near n far a b c d = rw (c, d) refl

-- ---- where an insertion begins

-- the node is found below, or here, on a black node with no red one next
data Enters (red : Bool) (n : ℕ) (next : Tree) (below : Option ℕ) (q : ℕ) : Type 0 where
  deeper : below ≡ Some q → Enters red n next below q
  here : red ≡ false → has_black_root next ≡ true → n ≡ q → Enters red n next below q

enters_here : (red : Bool) (n : ℕ) (next : Tree) (q : ℕ) → entry_over red n next None ≡ Some q
    → Enters red n next None q
enters_here true n next q e = absurd (none_some q e)
enters_here false n next q e =
    elim (cases_Bool (has_black_root next)) [
      | inl k ↦ let f : Some n ≡ Some q = rw k at e in here refl k (some_same n q f)
      | inr k ↦ let f : None ≡ Some q = rw k at e in absurd (none_some q f)
    ]

enters : (red : Bool) (n : ℕ) (next : Tree) (below : Option ℕ) (q : ℕ) → entry_over red n next below ≡ Some q
    → Enters red n next below q
enters red n next None q e = enters_here red n next q e
enters red n next (Some m) q e = deeper e

-- the effect of an insertion that begins at a node of the tree
pub record IsBegun (lt : ℕ → ℕ → Bool) (h : ℕ → Cell) (x : ℕ) (t : Tree) (p : ℕ) : Type 0 where
  pub begins : Begins lt h (x ∷ []) (after_insert lt x) (Some p) t
  pub even : has_no_red_pair (after_insert lt x t) ≡ true
  -- so the node itself is not rebalanced
  pub next : (u : Tree) → IsTree h (child_of (side_of (lt x p)) (h p)) u → has_no_red_pair (after_insert lt x u) ≡ true

module _ {lt : ℕ → ℕ → Bool} (strict : IsStrict lt) (h : ℕ → Cell) (x : ℕ) where
  -- a node can be inserted below where the insertion begins
  pub grows_begun : (t : Tree) (p : ℕ) → is_ordered_with lt x (nodes_of t) ≡ true → (g : IsBegun lt h x t p)
      → CanInsert lt h (Some p) x g.begins.below
  grows_begun t p place g = record {
    tree = g.begins.is_tree;
    ordered = g.begins.ordered;
    placed = place_part lt x (nodes_of g.begins.below) (nodes_of t) g.begins.inside place;
  }

  begun_here : (side : Side) (red : Bool) (near : Tree) (n : ℕ) (far : Tree) (b : ℕ)
      → AreCellsOf h (joined_at side red near n far) → is_sorted lt (nodes_of (joined_at side red near n far)) ≡ true
      → IsEvenFork red near far b → side_of (lt x n) ≡ side → red ≡ false → has_black_root near ≡ true
      → IsBegun lt h x (joined_at side red near n far) n
  begun_here side red near n far b w o e s r k =
      let even = (grown_even lt x near e.below e.left_even).even k in
      let is : after_insert lt x (joined_at side red near n far) ≡ joined_at side red (after_insert lt x near) n far =
      after_insert-joined lt x side red near n far s ∙ balance_same side red (after_insert lt x near) n far even in
      let joint = joint_of h side red near n far w in
      let there : IsTree h (child_of (side_of (lt x n)) (h n)) near = record {
        root = ap (λ o. child_of o (h n)) s ∙ ap (λ c. child_of side c) joint.cell
            ∙ child_of_cell side red (root_of near) (root_of far);
        holds = joint.near_holds;
      } in
      record {
        begins = begins_here strict h (x ∷ []) (after_insert lt x) side red near (after_insert lt x near) n far w o is;
        even = ap has_no_red_pair is ∙ no_pair_joined side red (after_insert lt x near) n far
            (λ q. absurd (true≢false (sym q ∙ r))) e.right_root even e.right_even.no_red_pair;
        next = λ u v. subst (λ z. has_no_red_pair (after_insert lt x z) ≡ true)
            (one_tree h (child_of (side_of (lt x n)) (h n)) near u there v) even;
      }

  begun_deeper : (side : Side) (red : Bool) (near : Tree) (n : ℕ) (far : Tree) (b q : ℕ)
      → AreCellsOf h (joined_at side red near n far) → is_sorted lt (nodes_of (joined_at side red near n far)) ≡ true
      → is_ordered_with lt x (nodes_of (joined_at side red near n far)) ≡ true → IsEvenFork red near far b
      → side_of (lt x n) ≡ side → IsBegun lt h x near q → IsBegun lt h x (joined_at side red near n far) q
  begun_deeper side red near n far b q w o p e s g =
      let t = joined_at side red near n far in
      let is : after_insert lt x t ≡ joined_at side red (after_insert lt x near) n far =
      after_insert-joined lt x side red near n far s
      ∙ balance_same side red (after_insert lt x near) n far g.even in
      let others : (m : ℕ) → is_in m (nodes_of t) ≡ true → is_in m (x ∷ []) ≡ false =
      λ m i. out_of strict m x [] (placed_apart strict x (nodes_of t) m p i) refl in
      record {
        begins = begins_deeper strict h (x ∷ []) (after_insert lt x) side red near n far (Some q) w o others is
            g.begins;
        even = ap has_no_red_pair is ∙ no_pair_joined side red (after_insert lt x near) n far
            (λ r. g.begins.colour ∙ e.left_root r) e.right_root g.even e.right_even.no_red_pair;
        next = g.next;
      }

  begun_over : (side : Side) (red : Bool) (near : Tree) (n : ℕ) (far : Tree) (b : ℕ) (q : ℕ)
      → AreCellsOf h (joined_at side red near n far) → is_sorted lt (nodes_of (joined_at side red near n far)) ≡ true
      → is_ordered_with lt x (nodes_of (joined_at side red near n far)) ≡ true
      → IsEven (joined_at side red near n far) b
      → side_of (lt x n) ≡ side → (below : Option ℕ) → entry_over red n near below ≡ Some q
      → ((d : ℕ) → AreCellsOf h near → is_sorted lt (nodes_of near) ≡ true → is_ordered_with lt x (nodes_of near) ≡ true
      → IsEven near d → below ≡ Some q → IsBegun lt h x near q) → IsBegun lt h x (joined_at side red near n far) q
  begun_over side red near n far b q w o p e s below is more =
      let parts = parts_of side red near n far b e in
      elim (enters red n near below q is) [
        | deeper k ↦
            begun_deeper side red near n far b q w o p parts s
            (more parts.below (joint_of h side red near n far w).near_holds
            (apart_of strict side red near n far o).near_rises
            (place_part lt x (nodes_of near) (nodes_of (joined_at side red near n far)) (in_near side red near n far)
            p) parts.left_even k)
        | here r k m ↦
            subst (λ j. IsBegun lt h x (joined_at side red near n far) j) m
            (begun_here side red near n far b w o parts s r k)
      ]

  starts : (t : Tree) (b : ℕ) (q : ℕ) → AreCellsOf h t → is_sorted lt (nodes_of t) ≡ true
      → is_ordered_with lt x (nodes_of t) ≡ true → IsEven t b → insert_point_of (λ m. not (lt x m)) t ≡ Some q
      → IsBegun lt h x t q
  starts leaf b q w o p e k = absurd (none_some q k)
  starts (fork red l n r) b q w o p e k =
      elim (cases_Bool (lt x n)) [
        | inl a ↦
            let k' : entry_over red n l (insert_point_of (λ m. not (lt x m)) l) ≡ Some q = rw a at k in
            begun_over Left red l n r b q w o p e (ap side_of a) (insert_point_of (λ m. not (lt x m)) l) k' (λ d.
            starts l d q)
        | inr a ↦
            let k' : entry_over red n r (insert_point_of (λ m. not (lt x m)) r) ≡ Some q = rw a at k in
            begun_over Right red r n l b q w o p e (ap side_of a) (insert_point_of (λ m. not (lt x m)) r) k'
            (λ d. starts r d q)
      ]

  -- an insertion into a search tree begins at a node or at the root
  pub begun_whole : (root : Option ℕ) (t : Tree) (p : ℕ) → IsSearchTree lt h root t
      → is_ordered_with lt x (nodes_of t) ≡ true → insert_point_of (λ m. not (lt x m)) t ≡ Some p → IsBegun lt h x t p
  begun_whole root t p s q e = starts t s.red_black.black.0 p s.tree.holds s.ordered q (even_tree t s.red_black) e

  -- where the tree below has no red pair after the insertion, the node is not rebalanced
  pub steady : (side : Side) (h2 : ℕ → Cell) (at : ℕ)
      → ((u : Tree) → CanInsert lt h (child_of side (h at)) x u → has_no_red_pair (after_insert lt x u) ≡ true)
      → Rebalances lt h h2 h2 side x at at
  steady side h2 at even u far red w j o =
      rw (balance_same side red (after_insert lt x u) at far (even u w)) (record { tree = j; frame = λ m i. refl })

  -- an insertion below its begin is an insertion into the whole tree
  pub entered : (h1 : ℕ → Cell) (root : Option ℕ) (top : ℕ) (t : Tree) (p : ℕ)
      → IsSearchTree lt h root t → is_ordered_with lt x (nodes_of t) ≡ true → (g : IsBegun lt h x t p)
      → BecomesTree h h1 (x ∷ nodes_of g.begins.below) (Some top) (after_insert lt x g.begins.below)
      → IsChanged lt h h1 root (x ∷ nodes_of t) (insert_in_order lt x (nodes_of t))
  entered h1 root top t p s q g u =
      let b = s.red_black.black.0 in
      let e = grown_even lt x t b (even_tree t s.red_black) in
      begun strict h (x ∷ []) (after_insert lt x) h1 root (Some p) (Some top) t b (insert_in_order lt x (nodes_of t)) s
      g.begins u
      (record { no_red_pair = g.even; black = e.nearly.black }) (nodes_of-after_insert strict x t s.ordered)
      (rises_put lt strict.transitive x (nodes_of t) s.ordered q)
