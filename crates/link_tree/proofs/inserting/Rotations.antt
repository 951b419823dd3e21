-- Rotations and recolourings of cells have the effect on trees that their names say.
use Rattle.std.proofs.Common.{◌≡◌, ℕ, Bool, true, false, Option, Some, List, refl, sym, ap, ◌∙◌, subst, not, ◌&&◌, ◌||◌}
use Rattle.std.proofs.lemmas.Bool.{true≢false, false≢true, not-false}
use Rattle.link_tree.specs.Tree.{has_black_root, Cell, Tree, leaf, fork, root_of, nodes_of, AreCellsOf, IsTree}
use Rattle.link_tree.specs.Tree.{is_sorted}
use Rattle.link_tree.specs.Nodes.{is_in, with_red}
use Rattle.link_tree.specs.Sides.{opposite, child_of, with_child, tree_on, joined_at}
use Rattle.link_tree.specs.Turning.{balanced_inner, balanced_outer, balanced_red, BecomesTree, blackened, flipped}
use Rattle.link_tree.specs.Turning.{painted, rotated, rebalanced, is_red_tree}
use Rattle.link_tree.specs.declared.cursor.Side.{Side}
use Rattle.link_tree.specs.declared.cursor.Side.TheVariants.{Left, Right}
use Rattle.link_tree.proofs.trees.OrderedLists.{IsStrict}
use Rattle.link_tree.proofs.trees.Linked.{holds_same, some_same, none_some}
use Rattle.link_tree.proofs.trees.OneSided.{Makes, cell_at, with_child-other, with_child-near, with_child-far}
use Rattle.link_tree.proofs.trees.OneSided.{joined_opposite, with_red-other, with_red-same, fork_joined, root_joined}
use Rattle.link_tree.proofs.trees.OneSided.{joint_of, tree_joint, open_side, apart_of, in_near, in_far, in_root}
use Rattle.link_tree.proofs.trees.OneSided.{outside_all, other_than, nodes_of-joined, nodes_of-joined_far}
use Rattle.link_tree.proofs.trees.OneSided.{nodes_of-painted, nodes_of-turn, rotated-joined}

-- the tree on one side is another now, and the root's link leads to it
pub graft : (side : Side) (h h1 h2 : ℕ → Cell) (red : Bool) (near near' : Tree) (n : ℕ) (far : Tree) (link : Option ℕ)
    (xs : List ℕ) → AreCellsOf h (joined_at side red near n far) → BecomesTree h h1 xs link near'
    → is_in n xs ≡ false → ((m : ℕ) → is_in m (nodes_of far) ≡ true → is_in m xs ≡ false)
    → is_in n (nodes_of near') ≡ false → is_in n (nodes_of far) ≡ false
    → h2 n ≡ cell_at side red link (root_of far) → ((m : ℕ) → (m ≡ n → ⊥) → h2 m ≡ h1 m)
    → IsTree h2 (Some n) (joined_at side red near' n far)
graft side h h1 h2 red near near' n far link xs w u nx fx nn nf at_n rest =
    let j = joint_of h side red near n far w in
    tree_joint h2 side red near' n far (record {
      cell = at_n ∙ ap (λ o. cell_at side red o (root_of far)) u.tree.root;
      near_holds = holds_same h1 h2 near' (λ m i. rest m (other_than m n (nodes_of near') i nn)) u.tree.holds;
      far_holds = holds_same h h2 far (λ m i. rest m (other_than m n (nodes_of far) i nf)
          ∙ u.frame m (fx m i)) j.far_holds;
    })

with_red-cell : (side : Side) (h : ℕ → Cell) (n : ℕ) (old red : Bool) (near far : Option ℕ)
    → h n ≡ cell_at side old near far → with_red h n red n ≡ cell_at side red near far
with_red-cell Left h n old red near far e = with_red-same h n old red near far e
with_red-cell Right h n old red near far e = with_red-same h n old red far near e

-- a root of another colour
pub recolour : (side : Side) (h h2 : ℕ → Cell) (n : ℕ) (old red : Bool) (near far : Tree)
    → AreCellsOf h (joined_at side old near n far)
    → is_in n (nodes_of near) ≡ false → is_in n (nodes_of far) ≡ false → h2 ≡ with_red h n red
    → BecomesTree h h2 (nodes_of (joined_at side old near n far)) (Some n) (joined_at side red near n far)
recolour side h h2 n old red near far w nn nf set =
    let j = joint_of h side old near n far w in
    let at : (m : ℕ) → h2 m ≡ with_red h n red m = λ m. ap (λ (f : ℕ → Cell). f m) set in
    let rest : (m : ℕ) → (m ≡ n → ⊥) → h2 m ≡ h m = λ m d. at m ∙ with_red-other h n m red d in
    record {
      tree = tree_joint h2 side red near n far (record {
        cell = at n ∙ with_red-cell side h n old red (root_of near) (root_of far) j.cell;
        near_holds = holds_same h h2 near (λ m i. rest m (other_than m n (nodes_of near) i nn)) j.near_holds;
        far_holds = holds_same h h2 far (λ m i. rest m (other_than m n (nodes_of far) i nf)) j.far_holds;
      });
      frame = λ m i. rest m (outside_all side old near n far m i).root_out;
    }

module _ {lt : ℕ → ℕ → Bool} (strict : IsStrict lt) where
  pub lift_turns : (side : Side) (h h' : ℕ → Cell) (c d : Bool) (a : Tree) (m : ℕ) (b : Tree) (n : ℕ) (far : Tree)
      → AreCellsOf h (joined_at side c (joined_at side d a m b) n far)
      → is_sorted lt (nodes_of (joined_at side c (joined_at side d a m b) n far)) ≡ true
      → h' ≡ with_child side (with_child (opposite side) h m (Some n)) n (root_of b)
      → BecomesTree h h' (nodes_of (joined_at side c (joined_at side d a m b) n far)) (Some m)
      (joined_at side d a m (joined_at side c b n far))
  lift_turns side h h' c d a m b n far w o e =
      let inner = joined_at side d a m b in
      let j = joint_of h side c inner n far w in
      let k = joint_of h side d a m b j.near_holds in
      let ap1 = apart_of strict side c inner n far o in
      let ap2 = apart_of strict side d a m b ap1.near_rises in
      let h1 : ℕ → Cell = with_child (opposite side) h m (Some n) in
      let mn : m ≡ n → ⊥ = other_than m n (nodes_of inner) (in_root side d a m b) ap1.not_near in
      let nm : n ≡ m → ⊥ = λ q. mn (sym q) in
      let rest : (x : ℕ) → (x ≡ n → ⊥) → (x ≡ m → ⊥) → h' x ≡ h x =
      λ x xn xm. ap (λ (f : ℕ → Cell). f x) e ∙ with_child-other side h1 n x (root_of b) xn
      ∙ with_child-other (opposite side) h m x (Some n) xm in
      let at_n : h' n ≡ cell_at side c (root_of b) (root_of far) =
      ap (λ (f : ℕ → Cell). f n) e ∙ with_child-near side h1 n c (root_of inner) (root_of far) (root_of b)
      (with_child-other (opposite side) h m n (Some n) nm ∙ j.cell) in
      let at_m : h' m ≡ cell_at side d (root_of a) (Some n) =
      ap (λ (f : ℕ → Cell). f m) e ∙ with_child-other side h1 n m (root_of b) mn
      ∙ with_child-far side h m d (root_of a) (root_of b) (Some n) k.cell in
      let a_same = holds_same h h' a
      (λ x i. rest x (other_than x n (nodes_of inner) (in_near side d a m b x i) ap1.not_near)
      (other_than x m (nodes_of a) i ap2.not_near)) k.near_holds in
      let b_same = holds_same h h' b
      (λ x i. rest x (other_than x n (nodes_of inner) (in_far side d a m b x i) ap1.not_near)
      (other_than x m (nodes_of b) i ap2.not_far)) k.far_holds in
      let f_same = holds_same h h' far
      (λ x i. rest x (other_than x n (nodes_of far) i ap1.not_far) (λ q. true≢false (sym (in_root side d a m b)
      ∙ ap1.near_of_far m (subst (λ y. is_in y (nodes_of far) ≡ true) q i)))) j.far_holds in
      let low = tree_joint h' side c b n far (record { cell = at_n; near_holds = b_same; far_holds = f_same }) in
      record {
        tree = tree_joint h' side d a m (joined_at side c b n far) (record {
          cell = at_m ∙ ap (λ x. cell_at side d (root_of a) x) low.root;
          near_holds = a_same;
          far_holds = low.holds;
        });
        frame = λ x i.
            let p = outside_all side c inner n far x i in
            let q = outside_all side d a m b x p.near_out in
            rest x p.root_out q.root_out;
      }

  -- the effect of `lift`
  pub lift_step : (side : Side) (h h' : ℕ → Cell) (top child : ℕ) (middle : Option ℕ) (t : Tree)
      → IsTree h (Some top) t → is_sorted lt (nodes_of t) ≡ true
      → child_of side (h top) ≡ Some child → child_of (opposite side) (h child) ≡ middle
      → h' ≡ with_child side (with_child (opposite side) h child (Some top)) top middle
      → BecomesTree h h' (nodes_of t) (Some child) (rotated side t)
  lift_step side h h' top child middle t w o e1 e2 e3 =
      let p = open_side h side top t w in
      let near_tree = rw e1 at p.near_tree in
      let q = open_side h side child p.near near_tree in
      let is : t ≡ joined_at side (h top).red (joined_at side (h child).red q.near child q.far) top p.far = p.is
      ∙ ap (λ s. joined_at side (h top).red s top p.far) q.is in
      let holds = rw is at w.holds in
      let order = rw is at o in
      let e4 : h' ≡ with_child side (with_child (opposite side) h child (Some top)) top (root_of q.far) = e3
      ∙ ap (λ x. with_child side (with_child (opposite side) h child (Some top)) top x) (sym e2 ∙ q.far_tree.root) in
      let turned = lift_turns side h h' (h top).red (h child).red q.near child q.far top p.far holds order e4 in
      rw (is, rotated-joined side (h top).red (h child).red q.near child q.far top p.far) turned

  -- the effect of `paint`
  pub paint_turns : (h h' : ℕ → Cell) (n : ℕ) (red : Bool) (t : Tree) → IsTree h (Some n) t
      → is_sorted lt (nodes_of t) ≡ true → h' ≡ with_red h n red
      → BecomesTree h h' (nodes_of t) (Some n) (painted red t)
  paint_turns h h' n red leaf w o e = absurd (none_some n (sym w.root))
  paint_turns h h' n red (fork old l m r) w o e =
      let same = some_same n m w.root in
      let e' : h' ≡ with_red h m red = rw (← same) e in
      let apart = apart_of strict Left old l m r o in
      rw same (recolour Left h h' m old red l r w.holds apart.not_near apart.not_far e')

rebalanced-outer : (side : Side) (a : Tree) (m : ℕ) (b : Tree) (n : ℕ) (far : Tree) → is_red_tree a ≡ true
    → is_red_tree far ≡ false
    → rebalanced side (joined_at side false (joined_at side true a m b) n far) ≡ joined_at side true (blackened a) m
    (joined_at side false b n far)
rebalanced-outer Left a m b n far e f = rw (e, f) refl
rebalanced-outer Right a m b n far e f = rw (e, f) refl

rebalanced-inner : (side : Side) (a : Tree) (m : ℕ) (p : Tree) (k : ℕ) (q : Tree) (n : ℕ) (far : Tree)
    → is_red_tree a ≡ false → is_red_tree far ≡ false
    → rebalanced side (joined_at side false (joined_at side true a m (joined_at side true p k q)) n far)
    ≡ joined_at side true (joined_at side false a m p) k (joined_at side false q n far)
rebalanced-inner Left a m p k q n far e f = rw (e, f) refl
rebalanced-inner Right a m p k q n far e f = rw (e, f) refl

-- over two red children only colours change
rebalanced-flipped : (side : Side) (a : Tree) (m : ℕ) (b : Tree) (n : ℕ) (far : Tree)
    → (is_red_tree a || is_red_tree b) ≡ true → is_red_tree far ≡ true
    → rebalanced side (joined_at side false (joined_at side true a m b) n far)
    ≡ flipped (joined_at side false (joined_at side true a m b) n far)
rebalanced-flipped Left a m b n far e f = rw (e, f) refl
rebalanced-flipped Right a m b n far e f = rw (e, f) refl

flipped-joined : (side : Side) (red : Bool) (near : Tree) (n : ℕ) (far : Tree)
    → flipped (joined_at side red near n far) ≡ joined_at side true (blackened near) n (blackened far)
flipped-joined Left red near n far = refl
flipped-joined Right red near n far = refl

-- without a red pair nothing is rotated
inner_same : (side : Side) (a : Tree) (m : ℕ) (b : Tree) (n : ℕ) (far : Tree) → has_black_root b ≡ true
    → balanced_inner side a m b n far ≡ joined_at side false (joined_at side true a m b) n far
inner_same side a m leaf n far k = refl
inner_same side a m (fork false p i q) n far k = refl
inner_same side a m (fork true p i q) n far k = absurd (false≢true k)

-- a tree with no red child is not changed by balancing
outer_same : (side : Side) (a : Tree) (m : ℕ) (b : Tree) (n : ℕ) (far : Tree) → has_black_root a ≡ true
    → has_black_root b ≡ true → balanced_outer side a m b n far ≡ joined_at side false (joined_at side true a m b) n far
outer_same side a m b n far j k = let e = ap not j in rw e (inner_same side a m b n far k)

-- nor by the choice between colours and rotations
pub red_same : (side : Side) (a : Tree) (m : ℕ) (b : Tree) (n : ℕ) (far : Tree) → has_black_root a ≡ true
    → has_black_root b ≡ true → balanced_red side a m b n far ≡ joined_at side false (joined_at side true a m b) n far
red_same side a m b n far j k =
    let e : ((is_red_tree a || is_red_tree b) && is_red_tree far) ≡ false = rw (ap not j, ap not k) refl in
    rw e (outer_same side a m b n far j k)

rebalanced-none : (side : Side) (a : Tree) (m : ℕ) (b : Tree) (n : ℕ) (far : Tree) → is_red_tree a ≡ false
    → is_red_tree b ≡ false → rebalanced side (joined_at side false (joined_at side true a m b) n far)
    ≡ joined_at side false (joined_at side true a m b) n far
rebalanced-none Left a m b n far e f =
    red_same Left a m b n far (not-false (has_black_root a) e) (not-false (has_black_root b) f)
rebalanced-none Right a m b n far e f =
    red_same Right a m b n far (not-false (has_black_root a) e) (not-false (has_black_root b) f)

-- a black node over a red child, each seen from the side of the child
record IsBlackRed (h : ℕ → Cell) (side : Side) (top near : ℕ) (t : Tree) : Type 0 where
  a : Tree
  b : Tree
  far : Tree
  is : t ≡ joined_at side false (joined_at side true a near b) top far
  a_tree : IsTree h (child_of side (h near)) a
  b_tree : IsTree h (child_of (opposite side) (h near)) b
  far_tree : IsTree h (child_of (opposite side) (h top)) far

black_red : (side : Side) (h : ℕ → Cell) (top near : ℕ) (t : Tree) → IsTree h (Some top) t
    → child_of side (h top) ≡ Some near → (h top).red ≡ false → (h near).red ≡ true → IsBlackRed h side top near t
black_red side h top near t w e1 e2 e3 =
    let p = open_side h side top t w in
    let near_tree = rw e1 at p.near_tree in
    let q = open_side h side near p.near near_tree in
    record {
      a = q.near;
      b = q.far;
      far = p.far;
      is = p.is ∙ ap (λ s. joined_at side (h top).red s top p.far) q.is ∙ rw (e2, e3) refl;
      a_tree = q.near_tree;
      b_tree = q.far_tree;
      far_tree = p.far_tree;
    }

-- a red tree, seen from a side
record IsRedAt (side : Side) (t : Tree) : Type 0 where
  p : Tree
  k : ℕ
  q : Tree
  is : t ≡ joined_at side true p k q

red_at : (side : Side) (t : Tree) → is_red_tree t ≡ true → IsRedAt side t
red_at side leaf e = absurd (false≢true e)
red_at side (fork false l n r) e = absurd (false≢true e)
red_at side (fork true l n r) e =
    record { p = tree_on side l r; k = n; q = tree_on (opposite side) l r; is = fork_joined side true l n r }

rotated-opposite : (side : Side) (a : Tree) (m : ℕ) (p : Tree) (k : ℕ) (q : Tree)
    → rotated (opposite side) (joined_at side true a m (joined_at side true p k q)) ≡ joined_at side true
    (joined_at side true a m p) k q
rotated-opposite Left a m p k q = refl
rotated-opposite Right a m p k q = refl

painted-joined : (side : Side) (old red : Bool) (near : Tree) (n : ℕ) (far : Tree)
    → painted red (joined_at side old near n far) ≡ joined_at side red near n far
painted-joined Left old red near n far = refl
painted-joined Right old red near n far = refl

-- links of joined trees lead to their roots
same_root : (side : Side) (h : ℕ → Cell) (m n : ℕ) (red : Bool) (near far : Tree)
    → IsTree h (Some m) (joined_at side red near n far) → m ≡ n
same_root side h m n red near far w = some_same m n (w.root ∙ root_joined side red near n far)

module _ {lt : ℕ → ℕ → Bool} (strict : IsStrict lt) where
  -- balancing a tree with no red pair changes no cell
  pub balance_none : (side : Side) (h : ℕ → Cell) (top near : ℕ) (t : Tree) → IsTree h (Some top) t
      → is_sorted lt (nodes_of t) ≡ true → child_of side (h top) ≡ Some near → (h top).red ≡ false → (h near).red ≡ true
      → ((u : Tree) → IsTree h (child_of side (h near)) u → false ≡ is_red_tree u)
      → ((u : Tree) → IsTree h (child_of (opposite side) (h near)) u → false ≡ is_red_tree u)
      → BecomesTree h h (nodes_of t) (Some top) (rebalanced side t)
  balance_none side h top near t w o e1 e2 e3 v1 v2 =
      let s = black_red side h top near t w e1 e2 e3 in
      let e = rebalanced-none side s.a near s.b top s.far (sym (v1 s.a s.a_tree)) (sym (v2 s.b s.b_tree)) in
      let same : rebalanced side t ≡ t = ap (λ x. rebalanced side x) s.is ∙ e ∙ sym s.is in
      record { tree = rw same w; frame = λ m i. refl }

  -- balancing an outer red pair: a rotation of the cells
  pub balance_outer : (side : Side) (h h1 h2 : ℕ → Cell) (top near risen : ℕ) (outer : Option ℕ) (t : Tree)
      → IsTree h (Some top) t → is_sorted lt (nodes_of t) ≡ true
      → child_of side (h top) ≡ Some near → (h top).red ≡ false → (h near).red ≡ true → child_of side (h near) ≡ outer
      → ((u : Tree) → IsTree h outer u → true ≡ is_red_tree u)
      → ((u : Tree) → IsTree h (child_of (opposite side) (h top)) u → false ≡ is_red_tree u)
      → Makes lt h h1 (Some top) (Some risen) (rotated side)
      → Makes lt h1 h2 outer outer blackened → BecomesTree h h2 (nodes_of t) (Some risen) (rebalanced side t)
  balance_outer side h h1 h2 top near risen outer t w o e1 e2 e3 e4 red far_black lift blacken =
      let s = black_red side h top near t w e1 e2 e3 in
      let low = joined_at side false s.b top s.far in
      let is_lifted : rotated side t ≡ joined_at side true s.a near low = ap (λ x. rotated side x) s.is
      ∙ rotated-joined side false true s.a near s.b top s.far in
      let first = lift t w o in
      let turned = rw is_lifted at first in
      let same = same_root side h1 risen near true s.a low turned.tree in
      let nodes = nodes_of-turn side false true false true s.a near s.b top s.far in
      let is_nodes : nodes_of t ≡ nodes_of (joined_at side false (joined_at side true s.a near s.b) top s.far) =
      ap nodes_of s.is in
      let order : is_sorted lt (nodes_of (joined_at side true s.a near low)) ≡ true =
      ap (is_sorted lt) (nodes ∙ sym is_nodes)
      ∙ o in
      let apart = apart_of strict side true s.a near low order in
      let joint = joint_of h1 side true s.a near low turned.tree.holds in
      let a_root : outer ≡ root_of s.a = sym e4 ∙ s.a_tree.root in
      let a_tree : IsTree h1 outer s.a = record { root = a_root; holds = joint.near_holds } in
      let black = blacken s.a a_tree apart.near_rises in
      let here : h2 near ≡ cell_at side true outer (root_of low) = black.frame near apart.not_near ∙ joint.cell
      ∙ ap (λ x. cell_at side true x (root_of low)) (sym a_root) in
      let whole = graft side h1 h2 h2 true s.a (blackened s.a) near low outer (nodes_of s.a) turned.tree.holds black
      apart.not_near apart.near_of_far
      (ap (is_in near) (nodes_of-painted false s.a) ∙ apart.not_near) apart.not_far here (λ m d. refl) in
      let red_a : is_red_tree s.a ≡ true = sym (red s.a (record { root = a_root; holds = s.a_tree.holds })) in
      let is_balanced : rebalanced side t ≡ joined_at side true (blackened s.a) near low =
      ap (λ x. rebalanced side x) s.is
      ∙ rebalanced-outer side s.a near s.b top s.far red_a (sym (far_black s.far s.far_tree)) in
      record {
        tree = rw (is_balanced, same) whole;
        frame = λ m i.
            let i' : is_in m (nodes_of (joined_at side true s.a near low)) ≡ false =
            ap (is_in m) (nodes ∙ sym is_nodes) ∙ i in
            let p = outside_all side true s.a near low m i' in
            black.frame m p.near_out ∙ (lift t w o).frame m i;
      }

  balance_inner_at : (side : Side) (h h1 h2 h3 h4 : ℕ → Cell) (a : Tree) (near : ℕ) (p : Tree) (k : ℕ) (q : Tree)
      (top : ℕ) (far : Tree) (lower risen : ℕ)
      → AreCellsOf h (joined_at side false (joined_at side true a near (joined_at side true p k q)) top far)
      → is_sorted lt (nodes_of (joined_at side false (joined_at side true a near (joined_at side true p k q)) top far))
      ≡ true → Makes lt h h1 (Some near) (Some lower) (rotated (opposite side))
      → h2 ≡ with_red h1 near false → h3 ≡ with_child side h2 top (Some lower)
      → Makes lt h3 h4 (Some top) (Some risen) (rotated side)
      → BecomesTree h h4 (nodes_of (joined_at side false (joined_at side true a near (joined_at side true p k q))
      top far))
      (Some risen) (joined_at side true (joined_at side false a near p) k (joined_at side false q top far))
  balance_inner_at side h h1 h2 h3 h4 a near p k q top far lower risen w o lift1 blacken set lift2 =
      let old = joined_at side true a near (joined_at side true p k q) in
      let up = joined_at side true a near p in
      let up' = joined_at side false a near p in
      let new = joined_at side true up k q in
      let new' = joined_at side true up' k q in
      let joint = joint_of h side false old top far w in
      let apart = apart_of strict side false old top far o in
      let old_tree : IsTree h (Some near) old =
      record { root = sym (root_joined side true a near (joined_at side true p k q)); holds = joint.near_holds } in
      let l1 = rw (rotated-opposite side a near p k q) at (lift1 old old_tree apart.near_rises) in
      let same1 = same_root side h1 lower k true up q l1.tree in
      let nodes1 : nodes_of new ≡ nodes_of old = sym (nodes_of-turn side true true true true a near p k q) in
      let o1 : is_sorted lt (nodes_of new) ≡ true = ap (is_sorted lt) nodes1 ∙ apart.near_rises in
      let apart1 = apart_of strict side true up k q o1 in
      let joint1 = joint_of h1 side true up k q l1.tree.holds in
      let up_tree : IsTree h1 (Some near) up =
      record { root = sym (root_joined side true a near p); holds = joint1.near_holds } in
      let black = rw (painted-joined side true false a near p) at
      (paint_turns strict h1 h2 near false up up_tree apart1.near_rises blacken) in
      let nodes_up : nodes_of up' ≡ nodes_of up = nodes_of-joined side true false a a near p refl in
      let k_cell : h2 k ≡ cell_at side true (Some near) (root_of q) =
      black.frame k apart1.not_near ∙ joint1.cell
      ∙ ap (λ x. cell_at side true x (root_of q)) (root_joined side true a near p) in
      let turned = graft side h1 h2 h2 true up up' k q (Some near) (nodes_of up) l1.tree.holds black apart1.not_near
      apart1.near_of_far (ap (is_in k) nodes_up ∙ apart1.not_near) apart1.not_far k_cell (λ m d. refl) in
      let nodes2 : nodes_of new' ≡ nodes_of old = nodes_of-joined side true true up up' k q nodes_up ∙ nodes1 in
      let l2 : BecomesTree h h2 (nodes_of old) (Some lower) new' = record {
        tree = rw same1 turned;
        frame = λ m i.
            let i1 : is_in m (nodes_of new) ≡ false = ap (is_in m) nodes1 ∙ i in
            black.frame m (outside_all side true up k q m i1).near_out ∙ l1.frame m i;
      } in
      let set_at : (m : ℕ) → h3 m ≡ with_child side h2 top (Some lower) m = λ m. ap (λ (f : ℕ → Cell). f m) set in
      let top_cell = set_at top ∙ with_child-near side h2 top false (root_of old) (root_of far) (Some lower)
      (l2.frame top apart.not_near ∙ joint.cell) in
      let rest3 : (m : ℕ) → (m ≡ top → ⊥) → h3 m ≡ h2 m = λ m d. set_at m
      ∙ with_child-other side h2 top m (Some lower) d in
      let t3 = graft side h h2 h3 false old new' top far (Some lower) (nodes_of old) w l2 apart.not_near
      apart.near_of_far (ap (is_in top) nodes2 ∙ apart.not_near) apart.not_far top_cell rest3 in
      let nodes3 = nodes_of-joined side false false old new' top far nodes2 in
      let o3 : is_sorted lt (nodes_of (joined_at side false new' top far)) ≡ true = ap (is_sorted lt) nodes3 ∙ o in
      let l4 = rw (rotated-joined side false true up' k q top far) at
      (lift2 (joined_at side false new' top far) t3 o3) in
      record {
        tree = l4.tree;
        frame = λ m i.
            let i3 : is_in m (nodes_of (joined_at side false new' top far)) ≡ false = ap (is_in m) nodes3 ∙ i in
            let out = outside_all side false old top far m i in
            l4.frame m i3 ∙ rest3 m out.root_out ∙ l2.frame m out.near_out;
      }

  -- balancing an inner red pair: two rotations of the cells
  pub balance_inner : (side : Side) (h h1 h2 h3 h4 : ℕ → Cell) (top near lower risen : ℕ) (inner : Option ℕ) (t : Tree)
      → IsTree h (Some top) t → is_sorted lt (nodes_of t) ≡ true
      → child_of side (h top) ≡ Some near → (h top).red ≡ false → (h near).red ≡ true
      → child_of (opposite side) (h near) ≡ inner
      → ((u : Tree) → IsTree h (child_of side (h near)) u → false ≡ is_red_tree u)
      → ((u : Tree) → IsTree h inner u → true ≡ is_red_tree u)
      → ((u : Tree) → IsTree h (child_of (opposite side) (h top)) u → false ≡ is_red_tree u)
      → Makes lt h h1 (Some near) (Some lower) (rotated (opposite side)) → h2 ≡ with_red h1 near false
      → h3 ≡ with_child side h2 top (Some lower) → Makes lt h3 h4 (Some top) (Some risen) (rotated side)
      → BecomesTree h h4 (nodes_of t) (Some risen) (rebalanced side t)
  balance_inner side h h1 h2 h3 h4 top near lower risen inner t w o e1 e2 e3 e4 outer_black inner_red far_black lift1
      blacken set lift2 =
      let s = black_red side h top near t w e1 e2 e3 in
      let b_root : inner ≡ root_of s.b = sym e4 ∙ s.b_tree.root in
      let r = red_at side s.b (sym (inner_red s.b (record { root = b_root; holds = s.b_tree.holds }))) in
      let is : t ≡ joined_at side false (joined_at side true s.a near (joined_at side true r.p r.k r.q)) top s.far =
      s.is ∙ ap (λ x. joined_at side false (joined_at side true s.a near x) top s.far) r.is in
      let turned = balance_inner_at side h h1 h2 h3 h4 s.a near r.p r.k r.q top s.far lower risen (rw is at w.holds)
      (rw is at o) lift1 blacken set lift2 in
      let is_balanced : rebalanced side t ≡ joined_at side true (joined_at side false s.a near r.p) r.k
      (joined_at side false r.q top s.far) =
      ap (λ x. rebalanced side x) is ∙ rebalanced-inner side s.a near r.p r.k r.q top s.far
      (sym (outer_black s.a s.a_tree)) (sym (far_black s.far s.far_tree)) in
      record { tree = rw is_balanced turned.tree; frame = λ m i. let i' = rw is at i in turned.frame m i' }

  -- a child of the root made black
  child_black : (side : Side) (h h' : ℕ → Cell) (top : ℕ) (link : Option ℕ) (red : Bool) (near far : Tree)
      → IsTree h (Some top) (joined_at side red near top far)
      → is_sorted lt (nodes_of (joined_at side red near top far)) ≡ true
      → root_of near ≡ link → Makes lt h h' link link blackened
      → BecomesTree h h' (nodes_of (joined_at side red near top far)) (Some top)
      (joined_at side red (blackened near) top far)
  child_black side h h' top link red near far w o e blacken =
      let joint = joint_of h side red near top far w.holds in
      let apart = apart_of strict side red near top far o in
      let black = blacken near (record { root = sym e; holds = joint.near_holds }) apart.near_rises in
      let cell : h' top ≡ cell_at side red link (root_of far) = black.frame top apart.not_near ∙ joint.cell
      ∙ ap (λ x. cell_at side red x (root_of far)) e in
      record {
        tree = graft side h h' h' red near (blackened near) top far link (nodes_of near) w.holds black apart.not_near
            apart.near_of_far (ap (is_in top) (nodes_of-painted false near) ∙ apart.not_near) apart.not_far cell
            (λ m d. refl);
        frame = λ m i. black.frame m (outside_all side red near top far m i).near_out;
      }

  -- both children made black and then the root red, each seen from the side of the first child
  pub flip_turns : (side : Side) (h h1 h2 h3 : ℕ → Cell) (top : ℕ) (near far : Option ℕ) (t : Tree)
      → IsTree h (Some top) t → is_sorted lt (nodes_of t) ≡ true
      → child_of side (h top) ≡ near → child_of (opposite side) (h top) ≡ far
      → Makes lt h h1 far far blackened → Makes lt h1 h2 near near blackened → h3 ≡ with_red h2 top true
      → BecomesTree h h3 (nodes_of t) (Some top) (flipped t)
  flip_turns side h h1 h2 h3 top near far t w o e1 e2 blacken_far blacken_near redden =
      let p = open_side h side top t w in
      let red = (h top).red in
      let whole = joined_at side red p.near top p.far in
      let tree : IsTree h (Some top) whole = rw p.is at w in
      let order : is_sorted lt (nodes_of whole) ≡ true = rw p.is at o in
      let turned : joined_at (opposite side) red p.far top p.near ≡ whole =
      sym (joined_opposite side red p.near top p.far) in
      let first : BecomesTree h h1 (nodes_of whole) (Some top) (joined_at side red p.near top (blackened p.far)) =
      rw (turned, sym (joined_opposite side red p.near top (blackened p.far))) at
      (child_black (opposite side) h h1 top far red p.far p.near (rw turned tree) (rw turned order)
      (sym p.far_tree.root ∙ e2) blacken_far) in
      let nodes1 : nodes_of (joined_at side red p.near top (blackened p.far)) ≡ nodes_of whole =
      nodes_of-joined_far side red red p.near top p.far (blackened p.far) (nodes_of-painted false p.far) in
      let second = child_black side h1 h2 top near red p.near (blackened p.far) first.tree
      (ap (is_sorted lt) nodes1 ∙ order) (sym p.near_tree.root ∙ e1) blacken_near in
      let both = joined_at side red (blackened p.near) top (blackened p.far) in
      let nodes2 : nodes_of both ≡ nodes_of whole =
      nodes_of-joined side red red p.near (blackened p.near) top (blackened p.far) (nodes_of-painted false p.near)
      ∙ nodes1 in
      let third = rw (painted-joined side red true (blackened p.near) top (blackened p.far)) at
      (paint_turns strict h2 h3 top true both second.tree (ap (is_sorted lt) nodes2 ∙ order) redden) in
      let is : flipped t ≡ joined_at side true (blackened p.near) top (blackened p.far) =
      ap flipped p.is ∙ flipped-joined side red p.near top p.far in
      record {
        tree = rw is third.tree;
        frame = λ m i.
            let i0 : is_in m (nodes_of whole) ≡ false = rw p.is at i in
            third.frame m (ap (is_in m) nodes2 ∙ i0) ∙ second.frame m (ap (is_in m) nodes1 ∙ i0) ∙ first.frame m i0;
      }

  -- balancing over two red children: another colour for each of the three nodes
  pub balance_flipped : (side : Side) (h h' : ℕ → Cell) (top near : ℕ) (t : Tree) → IsTree h (Some top) t
      → child_of side (h top) ≡ Some near → (h top).red ≡ false → (h near).red ≡ true
      → ((u v : Tree) → IsTree h (child_of side (h near)) u → IsTree h (child_of (opposite side) (h near)) v
      → (is_red_tree u || is_red_tree v) ≡ true)
      → ((u : Tree) → IsTree h (child_of (opposite side) (h top)) u → true ≡ is_red_tree u)
      → BecomesTree h h' (nodes_of t) (Some top) (flipped t)
      → BecomesTree h h' (nodes_of t) (Some top) (rebalanced side t)
  balance_flipped side h h' top near t w e1 e2 e3 pair far_red flip =
      let s = black_red side h top near t w e1 e2 e3 in
      let is : rebalanced side t ≡ flipped t =
      ap (λ x. rebalanced side x) s.is
      ∙ rebalanced-flipped side s.a near s.b top s.far (pair s.a s.b s.a_tree s.b_tree) (sym (far_red s.far s.far_tree))
      ∙ ap flipped (sym s.is) in
      rw is flip
