-- Balancing keeps black heights and leaves no red pair.
use Rattle.std.proofs.Common.{◌≡◌, ℕ, zero, suc, Bool, true, false, ◌&&◌, ◌||◌, cond, refl, inl, inr, not, ap}
use Rattle.std.proofs.lemmas.Bool.{false≢true, and_parts, cases_Bool, not-false}
use Rattle.link_tree.specs.Tree.{Tree, leaf, fork, has_black_root, has_no_red_pair, has_black_height, IsRedBlack}
use Rattle.link_tree.specs.Sides.{opposite, tree_on, joined_at}
use Rattle.link_tree.specs.Turning.{blackened, flipped, rebalanced, is_red_tree, balanced, balanced_red}
use Rattle.link_tree.specs.Turning.{balanced_outer, balanced_inner}
use Rattle.link_tree.specs.declared.cursor.Side.{Side}
use Rattle.link_tree.specs.declared.cursor.Side.TheVariants.{Left, Right}

-- no red pair, and this many black nodes on each path
pub record IsEven (t : Tree) (b : ℕ) : Type 0 where
  pub no_red_pair : has_no_red_pair t ≡ true
  pub black : has_black_height t b ≡ true

-- a red-black tree has even black heights
pub even_tree : (t : Tree) (k : IsRedBlack t) → IsEven t k.black.0
even_tree t k = record { no_red_pair = k.no_red_pair; black = k.black.1 }

-- the same property for a tree whose root can be red over red children
abbrev pub has_even_children : Tree → Bool
has_even_children leaf = true
has_even_children (fork red l n r) = has_no_red_pair l && has_no_red_pair r

-- black heights are even, and only the root and a child of it may both be red
pub record IsNearlyEven (t : Tree) (b : ℕ) : Type 0 where
  pub children : has_even_children t ≡ true
  pub black : has_black_height t b ≡ true

-- two even trees under a black node are even, one black higher
pub black_join : (side : Side) (near : Tree) (n : ℕ) (far : Tree) (b : ℕ) → IsEven near b → IsEven far b
    → IsEven (joined_at side false near n far) (suc b)
black_join Left near n far b e f = record {
  no_red_pair = rw (e.no_red_pair, f.no_red_pair) refl;
  black = rw (e.black, f.black) refl;
}
black_join Right near n far b e f = record {
  no_red_pair = rw (e.no_red_pair, f.no_red_pair) refl;
  black = rw (e.black, f.black) refl;
}

-- two even trees with black roots under a red node are even
pub red_join : (side : Side) (near : Tree) (n : ℕ) (far : Tree) (b : ℕ) → IsEven near b → IsEven far b
    → has_black_root near ≡ true → has_black_root far ≡ true → IsEven (joined_at side true near n far) b
red_join Left near n far b e f k m = record {
  no_red_pair = rw (k, m, e.no_red_pair, f.no_red_pair) refl;
  black = rw (e.black, f.black) refl;
}
red_join Right near n far b e f k m = record {
  no_red_pair = rw (k, m, e.no_red_pair, f.no_red_pair) refl;
  black = rw (e.black, f.black) refl;
}

-- two even trees under a red node are nearly even
pub red_nearly : (side : Side) (near : Tree) (n : ℕ) (far : Tree) (b : ℕ) → IsEven near b → IsEven far b
    → IsNearlyEven (joined_at side true near n far) b
red_nearly Left near n far b e f = record {
  children = rw (e.no_red_pair, f.no_red_pair) refl;
  black = rw (e.black, f.black) refl;
}
red_nearly Right near n far b e f = record {
  children = rw (e.no_red_pair, f.no_red_pair) refl;
  black = rw (e.black, f.black) refl;
}

-- the two trees of a root
pub record HasEvenSides (side : Side) (l r : Tree) (b : ℕ) : Type 0 where
  pub near_even : IsEven (tree_on side l r) b
  pub far_even : IsEven (tree_on (opposite side) l r) b

even_sides : (side : Side) (l r : Tree) (b : ℕ) → (has_no_red_pair l && has_no_red_pair r) ≡ true
    → (has_black_height l b && has_black_height r b) ≡ true → HasEvenSides side l r b
even_sides side l r b e f =
    let p = and_parts (has_no_red_pair l) (has_no_red_pair r) e in
    let q = and_parts (has_black_height l b) (has_black_height r b) f in
    let left : IsEven l b = record { no_red_pair = p.0; black = q.0 } in
    let right : IsEven r b = record { no_red_pair = p.1; black = q.1 } in
    elim side as (λ s. HasEvenSides s l r b) [
      | Left ↦ record { near_even = left; far_even = right }
      | Right ↦ record { near_even = right; far_even = left }
    ]

-- the two sides of a nearly even tree with a red root
pub sides_of_red : (side : Side) (l : Tree) (n : ℕ) (r : Tree) (b : ℕ) → IsNearlyEven (fork true l n r) b
    → HasEvenSides side l r b
sides_of_red side l n r b e = even_sides side l r b e.children e.black

-- the two sides of an even tree with a black root
pub sides_of_black : (side : Side) (l : Tree) (n : ℕ) (r : Tree) (b : ℕ) → IsEven (fork false l n r) (suc b)
    → HasEvenSides side l r b
sides_of_black side l n r b e = even_sides side l r b e.no_red_pair e.black

-- the roots under a red one are black
pub record HasBlackChildren (l r : Tree) : Type 0 where
  pub left_root : has_black_root l ≡ true
  pub right_root : has_black_root r ≡ true
  pub nearly : (n b : ℕ) → has_black_height (fork true l n r) b ≡ true → IsNearlyEven (fork true l n r) b

-- the children of a red node are black
pub under_red : (l : Tree) (n : ℕ) (r : Tree) → has_no_red_pair (fork true l n r) ≡ true → HasBlackChildren l r
under_red l n r e =
    let p = and_parts (has_black_root l && has_black_root r && has_no_red_pair l) (has_no_red_pair r) e in
    let q = and_parts (has_black_root l && has_black_root r) (has_no_red_pair l) p.0 in
    let k = and_parts (has_black_root l) (has_black_root r) q.0 in
    record {
      left_root = k.0;
      right_root = k.1;
      nearly = λ m b h. record { children = rw (q.1, p.1) refl; black = h };
    }

-- the parts of an even tree
pub record IsEvenFork (red : Bool) (l r : Tree) (b : ℕ) : Type 0 where
  pub below : ℕ
  pub is : b ≡ cond red below (suc below)
  pub left_even : IsEven l below
  pub right_even : IsEven r below
  pub left_root : red ≡ true → has_black_root l ≡ true
  pub right_root : red ≡ true → has_black_root r ≡ true

-- the parts of an even tree
pub even_fork : (red : Bool) (l : Tree) (n : ℕ) (r : Tree) (b : ℕ) → IsEven (fork red l n r) b → IsEvenFork red l r b
even_fork true l n r b e =
    let u = under_red l n r e.no_red_pair in
    let s = sides_of_red Left l n r b (u.nearly n b e.black) in
    record {
      below = b;
      is = refl;
      left_even = s.near_even;
      right_even = s.far_even;
      left_root = λ q. u.left_root;
      right_root = λ q. u.right_root;
    }
even_fork false l n r zero e = absurd (false≢true e.black)
even_fork false l n r (suc b) e =
    let s = sides_of_black Left l n r b e in
    record {
      below = b;
      is = refl;
      left_even = s.near_even;
      right_even = s.far_even;
      left_root = λ q. absurd (false≢true q);
      right_root = λ q. absurd (false≢true q);
    }

-- and a tree of even parts
pub even_join : (red : Bool) (l : Tree) (n : ℕ) (r : Tree) (b : ℕ) → IsEven l b → IsEven r b
    → (red ≡ true → has_black_root l ≡ true) → (red ≡ true → has_black_root r ≡ true)
    → IsEven (fork red l n r) (cond red b (suc b))
even_join true l n r b e f k m = red_join Left l n r b e f (k refl) (m refl)
even_join false l n r b e f k m = black_join Left l n r b e f

-- a tree with no red pair has none among its children
pub nearly_even : (t : Tree) (b : ℕ) → IsEven t b → IsNearlyEven t b
nearly_even leaf b e = record { children = refl; black = e.black }
nearly_even (fork true l n r) b e = (under_red l n r e.no_red_pair).nearly n b e.black
nearly_even (fork false l n r) b e = record { children = e.no_red_pair; black = e.black }

pub even_black : (t : Tree) (b : ℕ) → IsNearlyEven t b → has_black_root t ≡ true → IsEven t b
even_black leaf b e k = record { no_red_pair = refl; black = e.black }
even_black (fork true l n r) b e k = absurd (false≢true k)
even_black (fork false l n r) b e k = record { no_red_pair = e.children; black = e.black }

-- a red root made black
pub blackened_even : (t : Tree) (b : ℕ) → IsNearlyEven t b → is_red_tree t ≡ true → IsEven (blackened t) (suc b)
blackened_even leaf b e k = absurd (false≢true k)
blackened_even (fork false l n r) b e k = absurd (false≢true k)
blackened_even (fork true l n r) b e k = record { no_red_pair = e.children; black = e.black }

-- a tree that is made black at its root has a black root
pub blackened_root : (t : Tree) → has_black_root (blackened t) ≡ true
blackened_root leaf = refl
blackened_root (fork red l n r) = refl

pub blackened_same : (t : Tree) → has_black_root t ≡ true → blackened t ≡ t
blackened_same leaf k = refl
blackened_same (fork false l n r) k = refl
blackened_same (fork true l n r) k = absurd (false≢true k)

-- with its root made black, a tree that is nearly even is red-black
pub blackened_red_black : (t : Tree) (b : ℕ) → IsNearlyEven t b
    → (has_black_root t ≡ true → has_no_red_pair t ≡ true) → IsRedBlack (blackened t)
blackened_red_black t b e pairs =
    elim (cases_Bool (has_black_root t)) [
      | inl q ↦ rw (blackened_same t q) (record { root = q; no_red_pair = pairs q; black = (b, e.black) })
      | inr q ↦
          let even = blackened_even t b e (ap not q) in
          record { root = blackened_root t; no_red_pair = even.no_red_pair; black = (suc b, even.black) }
    ]

-- the colour of a root seen from a side
pub colour_joined : (side : Side) (red : Bool) (near : Tree) (n : ℕ) (far : Tree)
    → has_black_root (joined_at side red near n far) ≡ not red
colour_joined Left red near n far = refl
colour_joined Right red near n far = refl

inner_even : (side : Side) (a : Tree) (m : ℕ) (c : Tree) (n : ℕ) (far : Tree) (b : ℕ) → IsEven a b
    → has_black_root a ≡ true → IsEven c b → IsEven far b → IsEven (balanced_inner side a m c n far) (suc b)
inner_even side a m leaf n far b ea k ec ef = black_join side (joined_at side true a m leaf) n far b
    (red_join side a m leaf b ea ec k refl) ef
inner_even side a m (fork false p q r) n far b ea k ec ef =
    black_join side (joined_at side true a m (fork false p q r)) n far b
    (red_join side a m (fork false p q r) b ea ec k refl) ef
inner_even side a m (fork true p q r) n far b ea k ec ef =
    let s = sides_of_red side p q r b (nearly_even (fork true p q r) b ec) in
    let x = tree_on side p r in
    let y = tree_on (opposite side) p r in
    red_join side (joined_at side false a m x) q (joined_at side false y n far) (suc b)
    (black_join side a m x b ea s.near_even) (black_join side y n far b s.far_even ef) (colour_joined side false a m x)
    (colour_joined side false y n far)

outer_even : (side : Side) (a : Tree) (m : ℕ) (c : Tree) (n : ℕ) (far : Tree) (b : ℕ) → IsEven a b → IsEven c b
    → IsEven far b → IsEven (balanced_outer side a m c n far) (suc b)
outer_even side a m c n far b ea ec ef =
    elim (cases_Bool (is_red_tree a)) [
      | inl e ↦ rw e (red_join side (blackened a) m (joined_at side false c n far) (suc b)
          (blackened_even a b (nearly_even a b ea) e)
          (black_join side c n far b ec ef) (blackened_root a) (colour_joined side false c n far))
      | inr e ↦ rw e (inner_even side a m c n far b ea (not-false (has_black_root a) e) ec ef)
    ]

-- flipped colours keep a tree even, one black higher
flipped_even : (side : Side) (a : Tree) (m : ℕ) (c : Tree) (n : ℕ) (far : Tree) (b : ℕ) → IsEven a b → IsEven c b
    → IsEven far b → is_red_tree far ≡ true
    → IsEven (flipped (joined_at side false (joined_at side true a m c) n far)) (suc b)
flipped_even Left a m c n far b ea ec ef e =
    red_join Left (joined_at Left false a m c) n (blackened far) (suc b) (black_join Left a m c b ea ec)
    (blackened_even far b (nearly_even far b ef) e) refl (blackened_root far)
flipped_even Right a m c n far b ea ec ef e =
    red_join Right (joined_at Right false a m c) n (blackened far) (suc b) (black_join Right a m c b ea ec)
    (blackened_even far b (nearly_even far b ef) e) refl (blackened_root far)

red_even : (side : Side) (a : Tree) (m : ℕ) (c : Tree) (n : ℕ) (far : Tree) (b : ℕ) → IsEven a b → IsEven c b
    → IsEven far b → IsEven (balanced_red side a m c n far) (suc b)
red_even side a m c n far b ea ec ef =
    elim (cases_Bool ((is_red_tree a || is_red_tree c) && is_red_tree far)) [
      | inl e ↦ rw e (flipped_even side a m c n far b ea ec ef
          (and_parts (is_red_tree a || is_red_tree c) (is_red_tree far) e).1)
      | inr e ↦ rw e (outer_even side a m c n far b ea ec ef)
    ]

balanced_even : (side : Side) (near : Tree) (n : ℕ) (far : Tree) (b : ℕ) → IsNearlyEven near b → IsEven far b
    → IsEven (balanced side near n far) (suc b)
balanced_even side leaf n far b e f = black_join side leaf n far b (even_black leaf b e refl) f
balanced_even side (fork false l m r) n far b e f = black_join side (fork false l m r) n far b
    (even_black (fork false l m r) b e refl) f
balanced_even side (fork true l m r) n far b e f =
    let s = sides_of_red side l m r b e in
    red_even side (tree_on side l r) m (tree_on (opposite side) l r) n far b s.near_even s.far_even f

-- under a black root, balancing mends a red pair at the root of the near tree
pub rebalanced_even : (side : Side) (near : Tree) (n : ℕ) (far : Tree) (b : ℕ) → IsNearlyEven near b → IsEven far b
    → IsEven (rebalanced side (joined_at side false near n far)) (suc b)
rebalanced_even Left near n far b e f = balanced_even Left near n far b e f
rebalanced_even Right near n far b e f = balanced_even Right near n far b e f

-- a red root is not rebalanced
pub rebalanced_red : (side : Side) (near : Tree) (n : ℕ) (far : Tree)
    → rebalanced side (joined_at side true near n far) ≡ joined_at side true near n far
rebalanced_red Left near n far = refl
rebalanced_red Right near n far = refl
