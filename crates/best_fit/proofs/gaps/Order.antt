-- Gaps in their order, and their payloads: inserting one, removing one, and the first that is long enough.
use Rattle.best_fit.proofs.Common.{◌≡◌, refl, sym, ap, subst, ◌∙◌, ℕ, ◌+◌, ◌<◌, ◌≤◌, ◌⊎◌, inl, inr, Bool, true, false}
use Rattle.best_fit.proofs.Common.{◌&&◌, ◌||◌, not, List, [], ◌∷◌, ◌++◌, arith, nat_lt, nat_le, ◌==◌, Option, Some}
use Rattle.best_fit.proofs.Common.{None, filter, find, option_map, if◌then◌else◌, list_all, AllByRecursion, both_ways}
use Rattle.best_fit.proofs.Common.{cases_Bool, cases_eq, cases_lt, and_from, or_left, or_right, leb-true, le-leb}
use Rattle.best_fit.proofs.Common.{eq-eqb, ne_eqb, cond-true, cond-false, cond_both, lt-ltb, le-ltb, lt-leb, is_sorted}
use Rattle.best_fit.proofs.Common.{first_not_before, is_ordered_with, is_in, insert_in_order, without, Gap, least}
use Rattle.best_fit.proofs.Common.{precedes, insert_gap, payloads, sorted_gaps, comes_before, from_first, len_in}
use Rattle.best_fit.proofs.Common.{stands_before, HaveGapLengths, AreAscending, is_long, node_of, Memory, IsTree}
use Rattle.best_fit.proofs.Common.{IsTreeOf, cells_of, link_at, tree_same}
use Rattle.link_tree.proofs.Laws.{rises_put, without_none}
use Rattle.best_fit.specs.GapLaws.{Comes, comes, comes-Comes, Comes-comes, comes-false, comes-trans, comes_transitive}

-- ---- inserting one

insert-first : (g h : Gap) (hs : List Gap) → precedes g h ≡ true → insert_gap g (h ∷ hs) ≡ g ∷ h ∷ hs
insert-first g h hs e = cond-true (precedes g h) (g ∷ h ∷ hs) (h ∷ insert_gap g hs) e

insert-later : (g h : Gap) (hs : List Gap) → precedes g h ≡ false → insert_gap g (h ∷ hs) ≡ h ∷ insert_gap g hs
insert-later g h hs e = cond-false (precedes g h) (g ∷ h ∷ hs) (h ∷ insert_gap g hs) e

-- of two gaps at different offsets one precedes
one_precedes : (g h : Gap) → (g.offset ≡ h.offset → ⊥) → precedes g h ≡ false → precedes h g ≡ true
one_precedes g h n e = by_len (cases_lt h.len g.len)
  where
    no : Comes g.len g.offset h.len h.offset → ⊥
    no c = both_ways (precedes g h) e (Comes-comes g.len g.offset h.len h.offset c)

    by_offset : g.len ≤ h.len → h.len ≤ g.len → (h.offset < g.offset) ⊎ (g.offset ≤ h.offset) → precedes h g ≡ true
    by_offset a b (inl l) = Comes-comes h.len h.offset g.len g.offset (inr (omega arith, l))
    by_offset a b (inr l) = absurd (no (inr (omega arith, by_less (cases_eq g.offset h.offset) l)))
      where
        by_less : (g.offset ≡ h.offset) ⊎ (g.offset ≡ h.offset → ⊥) → g.offset ≤ h.offset → g.offset < h.offset
        by_less (inl s) l = absurd (n s)
        by_less (inr s) l = omega arith

    by_len : (h.len < g.len) ⊎ (g.len ≤ h.len) → precedes h g ≡ true
    by_len (inl l) = Comes-comes h.len h.offset g.len g.offset (inl l)
    by_len (inr l) = by_equal (cases_lt g.len h.len)
      where
        by_equal : (g.len < h.len) ⊎ (h.len ≤ g.len) → precedes h g ≡ true
        by_equal (inl m) = absurd (no (inl m))
        by_equal (inr m) = by_offset l m (cases_lt h.offset g.offset)

precedes-trans : (g h k : Gap) → precedes g h ≡ true → precedes h k ≡ true → precedes g k ≡ true
precedes-trans g h k a b = comes-trans g.len g.offset h.len h.offset k.len k.offset a b

not_both : (g h : Gap) → precedes g h ≡ true → precedes h g ≡ false
not_both g h a = by_test (cases_Bool (precedes h g))
  where
    same : Comes g.len g.offset g.len g.offset → ⊥
    same (inl x) = omega arith
    same (inr x) = let l = x.1 in omega arith

    by_test : (precedes h g ≡ true) ⊎ (precedes h g ≡ false) → precedes h g ≡ false
    by_test (inl t) = absurd (same (comes-Comes g.len g.offset g.len g.offset (precedes-trans g h g a t)))
    by_test (inr f) = f

-- two gaps can be inserted in either order
comm_ordered : (g h : Gap) (ks : List Gap) → precedes g h ≡ true → insert_gap g (insert_gap h ks)
    ≡ insert_gap h (insert_gap g ks)
comm_ordered g h [] e =
    insert-first g h [] e ∙ sym (insert-later h g [] (not_both g h e))
comm_ordered g h (k ∷ ks) e = by_test (comm_ordered g h ks e) (cases_Bool (precedes g k)) (cases_Bool (precedes h k))
  where
    by_test : insert_gap g (insert_gap h ks) ≡ insert_gap h (insert_gap g ks)
        → (precedes g k ≡ true) ⊎ (precedes g k ≡ false) → (precedes h k ≡ true) ⊎ (precedes h k ≡ false)
        → insert_gap g (insert_gap h (k ∷ ks)) ≡ insert_gap h (insert_gap g (k ∷ ks))
    by_test ih (inl a) (inl b) =
        ap (insert_gap g) (insert-first h k ks b) ∙ insert-first g h (k ∷ ks) e
        ∙ sym (ap (insert_gap h) (insert-first g k ks a) ∙ insert-later h g (k ∷ ks) (not_both g h e)
        ∙ ap (λ (xs : List Gap). g ∷ xs) (insert-first h k ks b))
    by_test ih (inl a) (inr b) =
        ap (insert_gap g) (insert-later h k ks b) ∙ insert-first g k (insert_gap h ks) a
        ∙ sym (ap (insert_gap h) (insert-first g k ks a) ∙ insert-later h g (k ∷ ks) (not_both g h e)
        ∙ ap (λ (xs : List Gap). g ∷ xs) (insert-later h k ks b))
    by_test ih (inr a) (inl b) = absurd (both_ways (precedes g k) a (precedes-trans g h k e b))
    by_test ih (inr a) (inr b) =
        ap (insert_gap g) (insert-later h k ks b) ∙ insert-later g k (insert_gap h ks) a
        ∙ ap (λ (xs : List Gap). k ∷ xs) ih
        ∙ sym (ap (insert_gap h) (insert-later g k ks a) ∙ insert-later h k (insert_gap g ks) b)

pub insert-comm : (g h : Gap) (ks : List Gap) → (g.offset ≡ h.offset → ⊥) → insert_gap g (insert_gap h ks)
    ≡ insert_gap h (insert_gap g ks)
insert-comm g h ks n = by_test (cases_Bool (precedes g h))
  where
    by_test : (precedes g h ≡ true) ⊎ (precedes g h ≡ false) → insert_gap g (insert_gap h ks)
        ≡ insert_gap h (insert_gap g ks)
    by_test (inl e) = comm_ordered g h ks e
    by_test (inr e) = sym (comm_ordered h g ks (one_precedes g h n e))

-- no gap of the list begins at this offset
abbrev pub NoneAt : ℕ → List Gap → Type 0
NoneAt at gs = AllByRecursion (λ (h : Gap). h.offset ≡ at → ⊥) gs

-- a gap among others is inserted at its place in the order
pub sorted-around : (g : Gap) (xs ys : List Gap) → NoneAt g.offset xs → sorted_gaps (xs ++ (g ∷ ys)) ≡ insert_gap g
    (sorted_gaps (xs ++ ys))
sorted-around g [] ys n = refl
sorted-around g (x ∷ xs) ys n = ap (insert_gap x) (sorted-around g xs ys n.1)
    ∙ insert-comm x g (sorted_gaps (xs ++ ys)) n.0

-- ---- membership in a list

in_step : (n : ℕ) (g h : Gap) (hs : List Gap) → is_in n (payloads (insert_gap g hs)) ≡ is_in n (payloads (g ∷ hs))
    → is_in n (payloads (h ∷ insert_gap g hs)) ≡ is_in n (payloads (g ∷ h ∷ hs))
in_step n g h hs ih = ap (λ (b : Bool). (n == h.offset + 16) || b) ih
    ∙ swap (n == h.offset + 16) (n == g.offset + 16) (is_in n (payloads hs))
  where
    swap : (a b c : Bool) → (a || (b || c)) ≡ (b || (a || c))
    swap true true c = refl
    swap true false c = refl
    swap false true c = refl
    swap false false c = refl

pub in_inserted : (n : ℕ) (g : Gap) (hs : List Gap) → is_in n (payloads (insert_gap g hs)) ≡ is_in n (payloads (g ∷ hs))
in_inserted n g [] = refl
in_inserted n g (h ∷ hs) =
    let ih = in_inserted n g hs in
    cond_both (precedes g h) (g ∷ h ∷ hs) (h ∷ insert_gap g hs)
    (λ ks. is_in n (payloads ks) ≡ is_in n (payloads (g ∷ h ∷ hs))) (λ _. refl) (λ _. in_step n g h hs ih)

-- sorting gaps keeps their nodes
pub in_sorted : (n : ℕ) (gs : List Gap) → is_in n (payloads (sorted_gaps gs)) ≡ is_in n (payloads gs)
in_sorted n [] = refl
in_sorted n (g ∷ gs) = in_inserted n g (sorted_gaps gs) ∙ ap (λ (b : Bool). (n == g.offset + 16) || b) (in_sorted n gs)

-- a tree of gaps stays where its root and the cells of these gaps do
pub gap_tree_stays : (m m' : Memory) (hs : List Gap) → link_at m' 24 ≡ link_at m 24
    → ((n : ℕ) → is_in n (payloads hs) ≡ true → cells_of m' n ≡ cells_of m n)
    → IsTreeOf m 24 (payloads (sorted_gaps hs)) → IsTreeOf m' 24 (payloads (sorted_gaps hs))
gap_tree_stays m m' hs root cells old =
    record {
      tree = old.tree;
      linked = subst (λ (o : Option ℕ). IsTree (cells_of m') o old.tree) (sym root)
          (tree_same (cells_of m) (cells_of m') (link_at m 24) old.tree
          (λ n i. cells n (sym (in_sorted n hs) ∙ ap (λ (ns : List ℕ). is_in n ns) (sym old.lists) ∙ i)) old.linked);
      red_black = old.red_black;
      lists = old.lists;
    }

-- ---- removing one

without_here : (n m : ℕ) (ns : List ℕ) → n ≡ m → without n (m ∷ ns) ≡ without n ns
without_here n m ns e = cond-true (n == m) (without n ns) (m ∷ without n ns) (eq-eqb n m e)

without_past : (n m : ℕ) (ns : List ℕ) → (n ≡ m → ⊥) → without n (m ∷ ns) ≡ m ∷ without n ns
without_past n m ns e = cond-false (n == m) (without n ns) (m ∷ without n ns) (ne_eqb n m e)

out_of : (n m : ℕ) (ns : List ℕ) → is_in n (m ∷ ns) ≡ false → (n ≡ m → ⊥)
out_of n m ns h e = both_ways (is_in n (m ∷ ns)) h (or_left (n == m) (is_in n ns) (eq-eqb n m e))

out_rest : (n m : ℕ) (ns : List ℕ) → is_in n (m ∷ ns) ≡ false → is_in n ns ≡ false
out_rest n m ns h = by_test (cases_Bool (is_in n ns))
  where
    by_test : (is_in n ns ≡ true) ⊎ (is_in n ns ≡ false) → is_in n ns ≡ false
    by_test (inl t) = absurd (both_ways (is_in n (m ∷ ns)) h (or_right (n == m) (is_in n ns) t))
    by_test (inr f) = f

-- inserting a gap and removing it restores the list
pub without-inserted : (n : ℕ) (g : Gap) (hs : List Gap) → node_of g ≡ n → is_in n (payloads hs) ≡ false
    → without n (payloads (insert_gap g hs)) ≡ payloads hs
without-inserted n g [] e out = without_here n (node_of g) [] (sym e)
without-inserted n g (h ∷ hs) e out =
    let ih = without-inserted n g hs e (out_rest n (node_of h) (payloads hs) out) in
    cond_both (precedes g h) (g ∷ h ∷ hs) (h ∷ insert_gap g hs) (λ ks. without n (payloads ks) ≡ payloads (h ∷ hs))
    (λ _. without_here n (node_of g) (payloads (h ∷ hs)) (sym e) ∙ without_none n (payloads (h ∷ hs)) out)
    (λ _. without_past n (node_of h) (payloads (insert_gap g hs)) (out_of n (node_of h) (payloads hs) out)
    ∙ ap (λ (ks : List ℕ). node_of h ∷ ks) ih)

-- ---- the order of the payloads

before_is : (gs : List Gap) (g h : Gap) → len_in gs (node_of g) ≡ g.len → len_in gs (node_of h) ≡ h.len
    → comes_before gs (node_of g) (node_of h) ≡ precedes g h
before_is gs g h a b =
    ap (λ k. nat_lt k (len_in gs (node_of h)) || ((k == len_in gs (node_of h)) && nat_lt (node_of g) (node_of h))) a
    ∙ ap (λ k. nat_lt g.len k || ((g.len == k) && nat_lt (node_of g) (node_of h))) b
    ∙ ap (λ (x : Bool). nat_lt g.len h.len || ((g.len == h.len) && x)) (shifted g.offset h.offset)
  where
    shifted : (a b : ℕ) → nat_lt (a + 16) (b + 16) ≡ nat_lt a b
    shifted a b = elim (cases_lt a b) [
      | inl l ↦ rw (lt-ltb a b l, lt-ltb (a + 16) (b + 16) (omega arith)) refl
      | inr l ↦ rw (le-ltb a b l, le-ltb (a + 16) (b + 16) (omega arith)) refl
    ]

fits-insert : (gs : List Gap) (g : Gap) (hs : List Gap) → len_in gs (node_of g) ≡ g.len → HaveGapLengths gs hs
    → HaveGapLengths gs (insert_gap g hs)
fits-insert gs g [] a f = (a, tt)
fits-insert gs g (h ∷ hs) a f =
    let ih = fits-insert gs g hs a f.1 in
    cond_both (precedes g h) (g ∷ h ∷ hs) (h ∷ insert_gap g hs) (HaveGapLengths gs) (λ _. (a, f)) (λ _. (f.0, ih))

-- sorting gaps keeps their lengths
pub fits-sorted : (gs hs : List Gap) → HaveGapLengths gs hs → HaveGapLengths gs (sorted_gaps hs)
fits-sorted gs [] f = tt
fits-sorted gs (h ∷ hs) f = fits-insert gs h (sorted_gaps hs) f.0 (fits-sorted gs hs f.1)

-- inserting a gap inserts its node
pub put_is : (gs : List Gap) (g : Gap) (hs : List Gap) → len_in gs (node_of g) ≡ g.len → HaveGapLengths gs hs
    → insert_in_order (comes_before gs) (node_of g) (payloads hs) ≡ payloads (insert_gap g hs)
put_is gs g [] a f = refl
put_is gs g (h ∷ hs) a f =
    let ih = put_is gs g hs a f.1 in
    let e = before_is gs g h a f.0 in
    ap (λ (b : Bool). if b then node_of g ∷ node_of h ∷ payloads hs else node_of h ∷ insert_in_order (comes_before gs)
    (node_of g) (payloads hs)) e
    ∙ cond_both (precedes g h) (g ∷ h ∷ hs) (h ∷ insert_gap g hs)
    (λ ks. (if precedes g h then node_of g ∷ node_of h ∷ payloads hs else node_of h ∷ insert_in_order (comes_before gs)
    (node_of g) (payloads hs)) ≡ payloads ks)
    (λ t. cond-true (precedes g h) (node_of g ∷ node_of h ∷ payloads hs)
    (node_of h ∷ insert_in_order (comes_before gs) (node_of g) (payloads hs)) t)
    (λ t. cond-false (precedes g h) (node_of g ∷ node_of h ∷ payloads hs)
    (node_of h ∷ insert_in_order (comes_before gs) (node_of g) (payloads hs)) t
    ∙ ap (λ (ks : List ℕ). node_of h ∷ ks) ih)

-- ---- the payloads rise

-- gaps at different offsets have their places
pub none_above : (at k : ℕ) (hs : List Gap) → at < k → AreAscending k hs → NoneAt at hs
none_above at k [] l r = tt
none_above at k (h ∷ hs) l r = let low = r.0 in (λ e. omega arith, none_above at (h.offset + 1) hs (omega arith) r.1)

place_in : (gs : List Gap) (g : Gap) (hs : List Gap) → len_in gs (node_of g) ≡ g.len → HaveGapLengths gs hs
    → NoneAt g.offset hs
    → is_ordered_with (comes_before gs) (node_of g) (payloads hs) ≡ true
place_in gs g [] a f n = refl
place_in gs g (h ∷ hs) a f n =
    and_from (comes_before gs (node_of g) (node_of h) || comes_before gs (node_of h) (node_of g))
    (list_all (λ m. comes_before gs (node_of g) m || comes_before gs m (node_of g)) (payloads hs))
    (by_test (cases_Bool (precedes g h))) (place_in gs g hs a f.1 n.1)
  where
    by_test : (precedes g h ≡ true) ⊎ (precedes g h ≡ false)
        → (comes_before gs (node_of g) (node_of h) || comes_before gs (node_of h) (node_of g)) ≡ true
    by_test (inl t) = or_left (comes_before gs (node_of g) (node_of h)) (comes_before gs (node_of h) (node_of g))
        (before_is gs g h a f.0 ∙ t)
    by_test (inr t) =
        or_right (comes_before gs (node_of g) (node_of h)) (comes_before gs (node_of h) (node_of g))
        (before_is gs h g f.0 a ∙ one_precedes g h (λ e. n.0 (sym e)) t)

none-insert : (at : ℕ) (g : Gap) (hs : List Gap) → (g.offset ≡ at → ⊥) → NoneAt at hs → NoneAt at (insert_gap g hs)
none-insert at g [] e n = (e, tt)
none-insert at g (h ∷ hs) e n =
    let ih = none-insert at g hs e n.1 in
    cond_both (precedes g h) (g ∷ h ∷ hs) (h ∷ insert_gap g hs) (NoneAt at) (λ _. (e, n)) (λ _. (n.0, ih))

pub none-sorted : (at : ℕ) (hs : List Gap) → NoneAt at hs → NoneAt at (sorted_gaps hs)
none-sorted at [] n = tt
none-sorted at (h ∷ hs) n = none-insert at h (sorted_gaps hs) n.0 (none-sorted at hs n.1)

-- a gap among sorted ones has its place
pub place_sorted : (gs : List Gap) (g : Gap) (hs : List Gap) → len_in gs (node_of g) ≡ g.len → HaveGapLengths gs hs
    → NoneAt g.offset hs → is_ordered_with (comes_before gs) (node_of g) (payloads (sorted_gaps hs)) ≡ true
place_sorted gs g hs a f n = place_in gs g (sorted_gaps hs) a (fits-sorted gs hs f) (none-sorted g.offset hs n)

-- sorted gaps are in the order of the tree
pub sorted-is_sorted : (gs : List Gap) (at : ℕ) (hs : List Gap) → HaveGapLengths gs hs → AreAscending at hs
    → is_sorted (comes_before gs) (payloads (sorted_gaps hs)) ≡ true
sorted-is_sorted gs at [] f r = refl
sorted-is_sorted gs at (h ∷ hs) f r =
    let ih = sorted-is_sorted gs (h.offset + 1) hs f.1 r.1 in
    let place = place_sorted gs h hs f.0 f.1 (none_above h.offset (h.offset + 1) hs (omega arith) r.1) in
    subst (λ (ns : List ℕ). is_sorted (comes_before gs) ns ≡ true)
    (put_is gs h (sorted_gaps hs) f.0 (fits-sorted gs hs f.1))
    (rises_put (comes_before gs) (comes_transitive gs) (node_of h) (payloads (sorted_gaps hs)) ih place)

-- ---- the first that is long enough

no_less : (k n w : ℕ) → w ≤ k → Comes k n w 0 → ⊥
no_less k n w l (inl x) = omega arith
no_less k n w l (inr x) = let y = x.1 in omega arith

-- no gap of exactly this length precedes the gap
not_before : (k n w : ℕ) → not (comes k n w 0) ≡ nat_le w k
not_before k n w = elim (cases_lt k w) [
  | inl l ↦ rw (Comes-comes k n w 0 (inl l), lt-leb w k l) refl
  | inr l ↦ rw (comes-false k n w 0 (no_less k n w l), le-leb w k l) refl
]

abbrev pub node_option : Option Gap → Option ℕ
node_option o = option_map node_of o

first_long : (gs : List Gap) (wanted : ℕ) (hs : List Gap) → HaveGapLengths gs hs
    → first_not_before (stands_before gs (from_first wanted)) (payloads hs) ≡ node_option (find (is_long wanted) hs)
first_long gs wanted [] f = refl
first_long gs wanted (h ∷ hs) f =
    let ih = first_long gs wanted hs f.1 in
    let before : ℕ → Bool = stands_before gs (from_first wanted) in
    let e : not (before (node_of h)) ≡ is_long wanted h =
    not_before (len_in gs (node_of h)) (node_of h) wanted ∙ ap (nat_le wanted) f.0 in
    ap (λ (b : Bool). if b then Some (node_of h) else first_not_before before (payloads hs)) e
    ∙ cond_both (is_long wanted h) (Some h) (find (is_long wanted) hs)
    (λ o. (if is_long wanted h then Some (node_of h) else first_not_before before (payloads hs)) ≡ node_option o)
    (λ t. cond-true (is_long wanted h) (Some (node_of h)) (first_not_before before (payloads hs)) t)
    (λ t. cond-false (is_long wanted h) (Some (node_of h)) (first_not_before before (payloads hs)) t ∙ ih)

-- the first of a gap and another, if there is one
abbrev pub lesser_of : Gap → Option Gap → Option Gap
lesser_of g o = elim o [ None ↦ Some g | Some h ↦ Some (if precedes g h then g else h) ]

longer_too : (wanted : ℕ) (g h : Gap) → precedes g h ≡ true → is_long wanted g ≡ true → is_long wanted h ≡ true
longer_too wanted g h e l = le-leb wanted h.len (by_case (comes-Comes g.len g.offset h.len h.offset e))
  where
    by_case : Comes g.len g.offset h.len h.offset → wanted ≤ h.len
    by_case (inl x) = let a = leb-true wanted g.len l in omega arith
    by_case (inr x) = let a = leb-true wanted g.len l in let b = x.0 in omega arith

find_first : (wanted : ℕ) (g : Gap) (hs : List Gap) → is_long wanted g ≡ true → find (is_long wanted) (g ∷ hs) ≡ Some g
find_first wanted g hs e = cond-true (is_long wanted g) (Some g) (find (is_long wanted) hs) e

find_later : (wanted : ℕ) (g : Gap) (hs : List Gap) → is_long wanted g ≡ false → find (is_long wanted) (g ∷ hs)
    ≡ find (is_long wanted) hs
find_later wanted g hs e = cond-false (is_long wanted g) (Some g) (find (is_long wanted) hs) e

some_if : (b : Bool) (g h k : Gap) → (if b then g else h) ≡ k → Some (if b then g else h) ≡ Some k
some_if b g h k e = ap (λ (x : Gap). let o : Option Gap = Some x in o) e

find-long : (wanted : ℕ) (g : Gap) (hs : List Gap) → is_long wanted g ≡ true → find (is_long wanted) (insert_gap g hs)
    ≡ lesser_of g (find (is_long wanted) hs)
find-long wanted g [] l = find_first wanted g [] l
find-long wanted g (h ∷ hs) l = by_test (find-long wanted g hs l) (cases_Bool (precedes g h))
    (cases_Bool (is_long wanted h))
  where
    by_test : find (is_long wanted) (insert_gap g hs) ≡ lesser_of g (find (is_long wanted) hs)
        → (precedes g h ≡ true) ⊎ (precedes g h ≡ false) → (is_long wanted h ≡ true) ⊎ (is_long wanted h ≡ false)
        → find (is_long wanted) (insert_gap g (h ∷ hs)) ≡ lesser_of g (find (is_long wanted) (h ∷ hs))
    by_test ih (inl a) b =
        ap (find (is_long wanted)) (insert-first g h hs a) ∙ find_first wanted g (h ∷ hs) l
        ∙ sym (ap (lesser_of g) (find_first wanted h hs (longer_too wanted g h a l))
        ∙ some_if (precedes g h) g h g (cond-true (precedes g h) g h a))
    by_test ih (inr a) (inl b) =
        ap (find (is_long wanted)) (insert-later g h hs a) ∙ find_first wanted h (insert_gap g hs) b
        ∙ sym (ap (lesser_of g) (find_first wanted h hs b)
        ∙ some_if (precedes g h) g h h (cond-false (precedes g h) g h a))
    by_test ih (inr a) (inr b) =
        ap (find (is_long wanted)) (insert-later g h hs a) ∙ find_later wanted h (insert_gap g hs) b ∙ ih
        ∙ sym (ap (lesser_of g) (find_later wanted h hs b))

find-short : (wanted : ℕ) (g : Gap) (hs : List Gap) → is_long wanted g ≡ false
    → find (is_long wanted) (insert_gap g hs) ≡ find (is_long wanted) hs
find-short wanted g [] l = find_later wanted g [] l
find-short wanted g (h ∷ hs) l = by_test (find-short wanted g hs l) (cases_Bool (precedes g h))
  where
    by_test : find (is_long wanted) (insert_gap g hs) ≡ find (is_long wanted) hs
        → (precedes g h ≡ true) ⊎ (precedes g h ≡ false) → find (is_long wanted) (insert_gap g (h ∷ hs))
        ≡ find (is_long wanted) (h ∷ hs)
    by_test ih (inl a) = ap (find (is_long wanted)) (insert-first g h hs a) ∙ find_later wanted g (h ∷ hs) l
    by_test ih (inr a) =
        ap (find (is_long wanted)) (insert-later g h hs a)
        ∙ ap (λ (o : Option Gap). if is_long wanted h then Some h else o) ih

-- the first gap of the sorted list that is long enough is the least such gap
least_long : (wanted : ℕ) (hs : List Gap) → find (is_long wanted) (sorted_gaps hs) ≡ least (filter (is_long wanted) hs)
least_long wanted [] = refl
least_long wanted (h ∷ hs) = by_test (least_long wanted hs) (cases_Bool (is_long wanted h))
  where
    by_test : find (is_long wanted) (sorted_gaps hs) ≡ least (filter (is_long wanted) hs)
        → (is_long wanted h ≡ true) ⊎ (is_long wanted h ≡ false)
        → find (is_long wanted) (sorted_gaps (h ∷ hs)) ≡ least (filter (is_long wanted) (h ∷ hs))
    by_test ih (inl t) =
        find-long wanted h (sorted_gaps hs) t ∙ ap (lesser_of h) ih
        ∙ sym (ap least (cond-true (is_long wanted h) (h ∷ filter (is_long wanted) hs) (filter (is_long wanted) hs) t))
    by_test ih (inr t) =
        find-short wanted h (sorted_gaps hs) t ∙ ih
        ∙ sym (ap least (cond-false (is_long wanted h) (h ∷ filter (is_long wanted) hs) (filter (is_long wanted) hs) t))

-- the first node that is long enough is the least such gap
pub first_is_least : (gs : List Gap) (wanted : ℕ) (hs : List Gap) → HaveGapLengths gs hs
    → first_not_before (stands_before gs (from_first wanted)) (payloads (sorted_gaps hs))
    ≡ node_option (least (filter (is_long wanted) hs))
first_is_least gs wanted hs f = first_long gs wanted (sorted_gaps hs) (fits-sorted gs hs f)
    ∙ ap node_option (least_long wanted hs)
