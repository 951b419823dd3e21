-- The removal keeps order, colours and black heights.
use Rattle.std.proofs.Common.{◌≡◌, ℕ, suc, ◌+◌, Bool, true, false, not, cond, List, [], ◌∷◌, ◌++◌, nat_eq, refl, sym}
use Rattle.std.proofs.Common.{ap, ◌∙◌, inl, inr, arith}
use Rattle.std.specs.List.{list_all}
use Rattle.std.proofs.lemmas.Bool.{true≢false, false≢true, and_parts, and_from, or_cases, or_parts, or_left, or_right}
use Rattle.std.proofs.lemmas.Bool.{cases_Bool, eqb-true, eqb-false, eq-eqb, ne_eqb, false_from_ne_true}
use Rattle.link_tree.specs.Tree.{Tree, leaf, fork, nodes_of, is_sorted, has_black_root, has_no_red_pair}
use Rattle.link_tree.specs.Tree.{has_black_height, IsRedBlack}
use Rattle.link_tree.specs.Nodes.{is_in, without}
use Rattle.link_tree.specs.Sides.{opposite, tree_on, joined_at}
use Rattle.link_tree.specs.Turning.{blackened, painted, rebalanced, is_red_tree}
use Rattle.link_tree.specs.Shrinking.{RemovedSubtree, mended_at, settled, sunk, least_of, without_least}
use Rattle.link_tree.specs.Shrinking.{without_root, after_remove}
use Rattle.link_tree.specs.declared.cursor.Side.{Side}
use Rattle.link_tree.specs.declared.cursor.Side.TheVariants.{Left, Right}
use Rattle.link_tree.proofs.trees.OrderedLists.{IsStrict, rises_split, all_at, all_from, is_in-append, in_left}
use Rattle.link_tree.proofs.trees.OrderedLists.{in_right, not_left, not_right}
use Rattle.link_tree.proofs.trees.OneSided.{fork_joined, joined_opposite, nodes_of-joined, nodes_of-joined_far}
use Rattle.link_tree.proofs.trees.OneSided.{nodes_of-painted, nodes_of-turn}
use Rattle.link_tree.proofs.trees.BlackHeights.{blackened_red_black, even_tree, IsEven, IsNearlyEven, black_join}
use Rattle.link_tree.proofs.trees.BlackHeights.{colour_joined, red_join, rebalanced_even, nearly_even, under_red}
use Rattle.link_tree.proofs.trees.BlackHeights.{sides_of_red, even_fork, blackened_even, blackened_root}
use Rattle.link_tree.proofs.inserting.Insertion.{nodes_of-rebalanced}
use Rattle.std.proofs.lemmas.List.{append-nil}

-- ---- lists

-- a list without a node that it lacks is the list
pub without_none : (x : ℕ) (xs : List ℕ) → is_in x xs ≡ false → without x xs ≡ xs
without_none x [] o = refl
without_none x (y ∷ ys) o =
    let p = or_parts (nat_eq x y) (is_in x ys) o in
    let e = p.0 in
    rw e (ap (λ zs. y ∷ zs) (without_none x ys p.1))

pub without-append : (x : ℕ) (xs ys : List ℕ) → without x (xs ++ ys) ≡ without x xs ++ without x ys
without-append x [] ys = refl
without-append x (y ∷ xs) ys =
    elim (cases_Bool (nat_eq x y)) [
      | inl e ↦ rw e (without-append x xs ys)
      | inr e ↦ rw e (ap (λ zs. y ∷ zs) (without-append x xs ys))
    ]

pub without_in : (x : ℕ) (xs : List ℕ) (m : ℕ) → is_in m (without x xs) ≡ true → is_in m xs ≡ true
without_in x [] m i = i
without_in x (y ∷ ys) m i =
    elim (cases_Bool (nat_eq x y)) [
      | inl e ↦ let j : is_in m (without x ys) ≡ true = rw e at i in
          or_right (nat_eq m y) (is_in m ys) (without_in x ys m j)
      | inr e ↦
          let j : is_in m (y ∷ without x ys) ≡ true = rw e at i in
          elim (or_cases (nat_eq m y) (is_in m (without x ys)) j) [
            | inl k ↦ or_left (nat_eq m y) (is_in m ys) k
            | inr k ↦ or_right (nat_eq m y) (is_in m ys) (without_in x ys m k)
          ]
    ]

-- a node that is not in a list is not in it without another
pub without_out : (x : ℕ) (xs : List ℕ) (m : ℕ) → is_in m xs ≡ false → is_in m (without x xs) ≡ false
without_out x xs m o = false_from_ne_true (is_in m (without x xs)) (λ i. true≢false (sym (without_in x xs m i) ∙ o))

-- a sorted list without a node is sorted
pub rises_without : (lt : ℕ → ℕ → Bool) (x : ℕ) (xs : List ℕ) → is_sorted lt xs ≡ true
    → is_sorted lt (without x xs) ≡ true
rises_without lt x [] o = refl
rises_without lt x (y ∷ ys) o =
    let p = and_parts (list_all (lt y) ys) (is_sorted lt ys) o in
    let more = rises_without lt x ys p.1 in
    elim (cases_Bool (nat_eq x y)) [
      | inl e ↦ rw e more
      | inr e ↦ rw e (and_from (list_all (lt y) (without x ys)) (is_sorted lt (without x ys))
          (all_from (lt y) (without x ys) (λ m i. all_at (lt y) ys m p.0 (without_in x ys m i))) more)
    ]

-- a sorted list without the node between front and rest is sorted
pub rises_skip : (lt : ℕ → ℕ → Bool) (xs : List ℕ) (n : ℕ) (ys : List ℕ) → is_sorted lt (xs ++ n ∷ ys) ≡ true
    → is_sorted lt (xs ++ ys) ≡ true
rises_skip lt [] n ys o = (and_parts (list_all (lt n) ys) (is_sorted lt ys) o).1
rises_skip lt (x ∷ xs) n ys o =
    let p = and_parts (list_all (lt x) (xs ++ n ∷ ys)) (is_sorted lt (xs ++ n ∷ ys)) o in
    and_from (list_all (lt x) (xs ++ ys)) (is_sorted lt (xs ++ ys))
    (all_from (lt x) (xs ++ ys) (λ m i. all_at (lt x) (xs ++ n ∷ ys) m p.0
    (elim (or_cases (is_in m xs) (is_in m ys) (sym (is_in-append m xs ys) ∙ i)) [
      | inl a ↦ in_left m xs n ys a
      | inr a ↦ in_right m xs n ys a
    ]))) (rises_skip lt xs n ys p.1)

-- ---- nodes

pub nodes_of-sunk : (red : Bool) (t : Tree) → nodes_of (sunk red t).tree ≡ nodes_of t
nodes_of-sunk true t = refl
nodes_of-sunk false t =
    elim (cases_Bool (is_red_tree t)) [
      | inl e ↦ rw e (nodes_of-painted false t)
      | inr e ↦ rw e refl
    ]

pub nodes_of-mended : (side : Side) (red : Bool) (near : Tree) (n : ℕ) (far : Tree)
    → nodes_of (mended_at side red near n far).tree ≡ nodes_of (joined_at side red near n far)
nodes_of-mended side red leaf n far = refl
nodes_of-mended side red (fork false l m r) n far =
    nodes_of-rebalanced side false (fork true l m r) n far ∙ nodes_of-joined side red false (fork false l m r)
    (fork true l m r) n far refl
nodes_of-mended side red (fork true l m r) n far =
    let a = tree_on side l r in
    let b = tree_on (opposite side) l r in
    nodes_of-joined_far side false false a m (joined_at side red b n far)
    (rebalanced side (joined_at side red (painted true b) n far)) (nodes_of-rebalanced side red (painted true b) n far
    ∙ nodes_of-joined side red red b (painted true b) n far (nodes_of-painted true b))
    ∙ nodes_of-turn side red true red false a m b n far
    ∙ ap (λ t. nodes_of (joined_at side red t n far)) (sym (fork_joined side true l m r))

-- settling a subtree that shrank keeps the nodes and their order
pub nodes_of-settled : (side : Side) (red : Bool) (rest : RemovedSubtree) (n : ℕ) (far : Tree)
    → nodes_of (settled side red rest n far).tree ≡ nodes_of (joined_at side red rest.tree n far)
nodes_of-settled side red rest n far =
    elim (cases_Bool rest.fell) [
      | inl e ↦ rw e (nodes_of-mended (opposite side) red far n rest.tree
          ∙ ap nodes_of (sym (joined_opposite side red rest.tree n far)))
      | inr e ↦ rw e refl
    ]

-- the first node, and the rest
pub nodes_of-least : (red : Bool) (l : Tree) (n : ℕ) (r : Tree) → nodes_of (fork red l n r) ≡ least_of n l ∷ nodes_of
    (without_least (fork red l n r)).tree
nodes_of-least red leaf n r = ap (λ zs. n ∷ zs) (sym (nodes_of-sunk red r))
nodes_of-least red (fork red' l m k) n r =
    ap (λ zs. zs ++ n ∷ nodes_of r) (nodes_of-least red' l m k)
    ∙ ap (λ zs. least_of m l ∷ zs) (sym (nodes_of-settled Left red (without_least (fork red' l m k)) n r))

pub nodes_of-without_root : (red : Bool) (l r : Tree) → nodes_of (without_root red l r).tree ≡ nodes_of l ++ nodes_of r
nodes_of-without_root red l leaf = nodes_of-sunk red l ∙ sym (append-nil (nodes_of l))
nodes_of-without_root red l (fork red' p k q) =
    nodes_of-settled Right red (without_least (fork red' p k q)) (least_of k p) l
    ∙ ap (λ zs. nodes_of l ++ zs) (sym (nodes_of-least red' p k q))

module _ {lt : ℕ → ℕ → Bool} (strict : IsStrict lt) where
  -- the nodes after a removal are those before without the node
  pub nodes_of-after_remove : (x : ℕ) (t : Tree) → is_sorted lt (nodes_of t) ≡ true
      → nodes_of (after_remove lt x t).tree ≡ without x (nodes_of t)
  nodes_of-after_remove x leaf o = refl
  nodes_of-after_remove x (fork red l n r) o =
      let xs = nodes_of l in
      let ys = nodes_of r in
      let s = rises_split lt xs n ys o in
      let ml = nodes_of-after_remove x l s.left in
      let mr = nodes_of-after_remove x r s.right in
      let parts = without-append x xs (n ∷ ys) in
      elim (cases_Bool (nat_eq n x)) [
        | inl e ↦
            let same = eqb-true n x e in
            let here : nat_eq x n ≡ true = eq-eqb x n (sym same) in
            let no_l : is_in x xs ≡ false = rw (← same) (not_left strict xs n ys s) in
            let no_r : is_in x ys ≡ false = rw (← same) (not_right strict xs n ys s) in
            let wl = without_none x xs no_l in
            let wr = without_none x ys no_r in
            rw e (nodes_of-without_root red l r ∙ sym (parts ∙ rw (wl, here, wr) refl))
        | inr e ↦
            let other : nat_eq x n ≡ false = ne_eqb x n (λ q. eqb-false n x e (sym q)) in
            elim (cases_Bool (lt x n)) [
              | inl k ↦
                  let no_r : is_in x ys ≡ false =
                  false_from_ne_true (is_in x ys)
                  (λ i. true≢false (sym (strict.transitive x n x k (all_at (lt n) ys x s.above i))
                  ∙ strict.irreflexive x)) in
                  let wr = without_none x ys no_r in
                  rw (e, k) (nodes_of-settled Left red (after_remove lt x l) n r ∙ ap (λ zs. zs ++ n ∷ ys) ml
                  ∙ sym (parts ∙ rw (other, wr) refl))
              | inr k ↦
                  let no_l : is_in x xs ≡ false =
                  false_from_ne_true (is_in x xs) (λ i. true≢false (sym (all_at (λ m. lt m n) xs x s.below i) ∙ k)) in
                  let wl = without_none x xs no_l in
                  rw (e, k) (nodes_of-settled Right red (after_remove lt x r) n l ∙ ap (λ zs. xs ++ n ∷ zs) mr
                  ∙ sym (parts ∙ rw (wl, other) refl))
            ]
      ]

-- ---- colours

-- a tree after a removal, with a black or red root and this many black nodes on each path
pub record IsRestEven (black : Bool) (rest : RemovedSubtree) (b : ℕ) : Type 0 where
  pub level : ℕ
  pub even : IsEven rest.tree level
  pub total : level + cond rest.fell 1 0 ≡ b
  pub root : black ≡ true → rest.fell ≡ false → has_black_root rest.tree ≡ true

sunk_even : (red : Bool) (t : Tree) (b : ℕ) → IsEven t b → IsRestEven (not red) (sunk red t) (cond red b (suc b))
sunk_even true t b e = record { level = b; even = e; total = omega arith; root = λ k f. absurd (false≢true k) }
sunk_even false t b e =
    elim (cases_Bool (is_red_tree t)) [
      | inl k ↦ rw k (record {
        level = suc b;
        even = blackened_even t b (nearly_even t b e) k;
        total = omega arith;
        root = λ q f. blackened_root t;
      })
      | inr k ↦ rw k (record { level = b; even = e; total = omega arith; root = λ q f. absurd (true≢false f) })
    ]

no_black : (b : ℕ) → has_black_height leaf (suc b) ≡ true → ⊥
no_black b e = let z = eqb-true (suc b) 0 e in omega arith

reddened_even : (t : Tree) (b : ℕ) → IsEven t (suc b) → has_black_root t ≡ true → IsNearlyEven (painted true t) b
reddened_even leaf b e k = absurd (no_black b e.black)
reddened_even (fork true l n r) b e k = absurd (false≢true k)
reddened_even (fork false l n r) b e k = record { children = e.no_red_pair; black = e.black }

-- the far tree under a red root
far_black : (side : Side) (l : Tree) (n : ℕ) (r : Tree) → has_no_red_pair (fork true l n r) ≡ true
    → has_black_root (tree_on (opposite side) l r) ≡ true
far_black Left l n r e = (under_red l n r e).right_root
far_black Right l n r e = (under_red l n r e).left_root

mended_even : (side : Side) (red : Bool) (near : Tree) (n : ℕ) (far : Tree) (b : ℕ) → IsEven near (suc b) → IsEven far b
    → (red ≡ true → has_black_root near ≡ true) → IsRestEven (not red) (mended_at side red near n far)
    (cond red (suc b) (suc (suc b)))
mended_even side red leaf n far b e f k = absurd (no_black b e.black)
mended_even side true (fork false l m r) n far b e f k = record {
  level = suc b;
  even = rebalanced_even side (fork true l m r) n far b (record { children = e.no_red_pair; black = e.black }) f;
  total = omega arith;
  root = λ q g. absurd (false≢true q);
}
mended_even side false (fork false l m r) n far b e f k = record {
  level = suc b;
  even = rebalanced_even side (fork true l m r) n far b (record { children = e.no_red_pair; black = e.black }) f;
  total = omega arith;
  root = λ q g. absurd (true≢false g);
}
mended_even side true (fork true l m r) n far b e f k = absurd (false≢true (k refl))
mended_even side false (fork true l m r) n far b e f k =
    let s = sides_of_red side l m r (suc b) (nearly_even (fork true l m r) (suc b) e) in
    let a = tree_on side l r in
    let c = painted true (tree_on (opposite side) l r) in
    let d = rebalanced side (joined_at side false c n far) in
    let low = reddened_even (tree_on (opposite side) l r) b s.far_even (far_black side l m r e.no_red_pair) in
    record {
      level = suc (suc b);
      even = black_join side a m d (suc b) s.near_even (rebalanced_even side c n far b low f);
      total = omega arith;
      root = λ q g. colour_joined side false a m d;
    }

done_even : (side : Side) (red : Bool) (near : Tree) (n : ℕ) (far : Tree) (b : ℕ) → IsEven near b → IsEven far b
    → (red ≡ true → has_black_root near ≡ true) → (red ≡ true → has_black_root far ≡ true)
    → IsRestEven (not red) (record { tree = joined_at side red near n far; fell = false }) (cond red b (suc b))
done_even side true near n far b e f k m = record {
  level = b;
  even = red_join side near n far b e f (k refl) (m refl);
  total = omega arith;
  root = λ q g. absurd (false≢true q);
}
done_even side false near n far b e f k m = record {
  level = suc b;
  even = black_join side near n far b e f;
  total = omega arith;
  root = λ q g. colour_joined side false near n far;
}

settled_even : (side : Side) (red black : Bool) (rest : RemovedSubtree) (n : ℕ) (far : Tree) (b : ℕ)
    → IsRestEven black rest b
    → IsEven far b → (red ≡ true → black ≡ true) → (red ≡ true → has_black_root far ≡ true)
    → IsRestEven (not red) (settled side red rest n far) (cond red b (suc b))
settled_even side red black rest n far b e f k m =
    elim (cases_Bool rest.fell) [
      | inl q ↦
          let total = rw q at e.total in
          let is : b ≡ suc e.level = omega arith in
          let far_even = rw is at f in
          rw q (rw is (mended_even (opposite side) red far n rest.tree e.level far_even e.even m))
      | inr q ↦
          let total = rw q at e.total in
          let is : e.level ≡ b = omega arith in
          let near_even = rw is at e.even in
          rw q (done_even side red rest.tree n far b near_even f (λ r. e.root (k r) q) m)
    ]

without_least_even : (t : Tree) (b : ℕ) → IsEven t b → IsRestEven (has_black_root t) (without_least t) b
without_least_even leaf b e = record { level = b; even = e; total = omega arith; root = λ q f. refl }
without_least_even (fork red leaf n r) b e =
    let p = even_fork red leaf n r b e in
    rw p.is (sunk_even red r p.below p.right_even)
without_least_even (fork red (fork red' l m k) n r) b e =
    let p = even_fork red (fork red' l m k) n r b e in
    let more = without_least_even (fork red' l m k) p.below p.left_even in
    rw p.is (settled_even Left red (has_black_root (fork red' l m k)) (without_least (fork red' l m k)) n r p.below
    more p.right_even p.left_root p.right_root)

without_root_even : (red : Bool) (l : Tree) (n : ℕ) (r : Tree) (b : ℕ) → IsEven (fork red l n r) b
    → IsRestEven (not red) (without_root red l r) b
without_root_even red l n leaf b e =
    let p = even_fork red l n leaf b e in
    rw p.is (sunk_even red l p.below p.left_even)
without_root_even red l n (fork red' p k q) b e =
    let f = even_fork red l n (fork red' p k q) b e in
    let more = without_least_even (fork red' p k q) f.below f.right_even in
    rw f.is (settled_even Right red (has_black_root (fork red' p k q)) (without_least (fork red' p k q))
    (least_of k p) l f.below more f.left_even f.right_root f.left_root)

-- a removal keeps black heights even, or makes them one less
pub shrunk_even : (lt : ℕ → ℕ → Bool) (x : ℕ) (t : Tree) (b : ℕ) → IsEven t b
    → IsRestEven (has_black_root t) (after_remove lt x t) b
shrunk_even lt x leaf b e = record { level = b; even = e; total = omega arith; root = λ q f. refl }
shrunk_even lt x (fork red l n r) b e =
    let p = even_fork red l n r b e in
    let ml = shrunk_even lt x l p.below p.left_even in
    let mr = shrunk_even lt x r p.below p.right_even in
    let root = without_root_even red l n r b e in
    elim (cases_Bool (nat_eq n x)) [
      | inl k ↦ rw k root
      | inr k ↦ elim (cases_Bool (lt x n)) [
        | inl m ↦ rw (k, m) (rw p.is (settled_even Left red (has_black_root l) (after_remove lt x l) n r p.below ml
            p.right_even p.left_root p.right_root))
        | inr m ↦ rw (k, m) (rw p.is (settled_even Right red (has_black_root r) (after_remove lt x r) n l p.below mr
            p.left_even p.right_root p.left_root))
      ]
    ]

-- a tree after a removal is red-black again if its root is made black
pub shrunk_red_black : (lt : ℕ → ℕ → Bool) (x : ℕ) (t : Tree) → IsRedBlack t
    → IsRedBlack (blackened (after_remove lt x t).tree)
shrunk_red_black lt x t k =
    let e = shrunk_even lt x t k.black.0 (even_tree t k) in
    let u = (after_remove lt x t).tree in
    blackened_red_black u e.level (nearly_even u e.level e.even) (λ q. e.even.no_red_pair)
