-- Keys in order, the number of comparisons of a search, and the facts that it knows about the remaining keys.
use Rattle.seg_index.proofs.Common.{◌≡◌, ap, ◌∙◌, ℕ, ◌+◌, ◌/◌, ◌<◌, ◌≤◌, ◌^◌, arith, ordering_reverse, Ordering, Less}
use Rattle.seg_index.proofs.Common.{Greater, nat_list_cmp_total, bits, Memory, Entry, order, name_at, refl, sym, zero}
use Rattle.seg_index.proofs.Common.{suc, ◌-◌, inl, inr, Bool, true, false, cases_lt, Equal, comparisons_among, middle}
use Rattle.seg_index.proofs.Common.{◌*◌, subst, Option, unwrap_or, WindowState, bytes_of, live_of, room-less, Lookup}
use Rattle.seg_index.proofs.Common.{Absent, Found, IsKeyedEntry, comparisons_in, order_at, AreKeys, FindsPositionIn}
use Rattle.std.proofs.{lemmas.Int.Digits.length-digits_of_step, lemmas.Cmp.nat_cmp_total, Common.lt-ltb, Common.le-ltb}
use Rattle.std.specs.Cmp.{IsTotalOrder}
use Rattle.best_fit.proofs.Laws.{bits-le}
use Rattle.link_tree.proofs.Laws.{bits_most}
use Rattle.seg_index.specs.declared.keys.Entry.TheVariants.{Name, Code}
use Rattle.seg_index.specs.{Keys.code_at, Lookups.IsEntryLinkTo, Sorted.index_of, Sorted.sort_order}

greater_on : {K : Type 0} {R : K → K → Ordering} → IsTotalOrder R → (x y z : K) → R x y ≡ Less → R x z ≡ Greater
    → R y z ≡ Greater
greater_on {K} {R} o x y z a b =
    let c : R z x ≡ Less = o.antisymm z x ∙ ap ordering_reverse b in
    o.antisymm y z ∙ ap ordering_reverse (o.trans z x y c a)

-- a key before a key that precedes the wanted one precedes it too
pub less_before : (m : Memory) (key : Entry) (g h : ℕ) → sort_order (index_of key) m g h ≡ Less → order m key h ≡ Less
    → order m key g ≡ Less
less_before m (Name s) g h a b = nat_list_cmp_total.trans (name_at m g) (name_at m h) s.now a b
less_before m (Code n) g h a b = nat_cmp_total.trans (code_at m g) (code_at m h) n a b

pub greater_behind : (m : Memory) (key : Entry) (g h : ℕ) → sort_order (index_of key) m g h ≡ Less
    → order m key g ≡ Greater → order m key h ≡ Greater
greater_behind m (Name s) g h a b = greater_on nat_list_cmp_total (name_at m g) (name_at m h) s.now a b
greater_behind m (Code n) g h a b = greater_on nat_cmp_total (code_at m g) (code_at m h) n a b

-- a part of at most half takes one bit less
pub bits_half : (n k : ℕ) → 0 < n → k ≤ n / 2 → bits k + 1 ≤ bits n
bits_half n k some l = omega (arith, length-digits_of_step 2 n (omega arith) some, bits-le k (n / 2) l)

-- a number below 2^40 has at most 41 bits
pub bits_few : (n : ℕ) → n < 2 ^ 40 → bits n ≤ 41
bits_few n l = omega (arith, bits-le n (n + 1) (omega arith), bits_most n (omega arith))

-- ---- one turn of a search

-- the cases of the order of the middle key
abbrev turn : ℕ → (ℕ → Ordering) → ℕ → ℕ → Ordering → ℕ
turn most stands low high o = suc (elim o [
  | Less ↦ comparisons_among most stands (middle low high + 1) high
  | Equal ↦ 0
  | Greater ↦ comparisons_among most stands low (middle low high)
])

one_turn : (most : ℕ) (stands : ℕ → Ordering) (low high : ℕ) (o : Ordering) → low < high → stands (middle low high) ≡ o
    → comparisons_among (suc most) stands low high ≡ turn most stands low high o
unfolding comparisons_among
one_turn most stands low high o l e =
    ap (λ (b : Bool). elim b [ false ↦ 0 | true ↦ turn most stands low high (stands (middle low high)) ])
    (lt-ltb low high l) ∙ ap (turn most stands low high) e

-- no entries are left: no comparison
pub none_left : (most : ℕ) (stands : ℕ → Ordering) (low high : ℕ) → high ≤ low
    → comparisons_among most stands low high ≡ 0
unfolding comparisons_among
none_left zero stands low high l = refl
none_left (suc most) stands low high l = ap (λ (b : Bool). elim b
    [ false ↦ 0 | true ↦ turn most stands low high (stands (middle low high)) ]) (le-ltb low high l)

-- ---- the comparisons made so far and those among the remaining keys are all comparisons

pub record Counting (stands : ℕ → Ordering) (count low high made : ℕ) : Type 0 where
  pub most : ℕ
  pub enough : high - low ≤ most
  pub all : made + comparisons_among most stands low high ≡ comparisons_among count stands 0 count

-- if keys remain, one more is compared
record More (stands : ℕ → Ordering) (count low high made : ℕ) (o : Ordering) : Type 0 where
  most : ℕ
  enough : high - low ≤ suc most
  all : made + turn most stands low high o ≡ comparisons_among count stands 0 count

one_more : {stands : ℕ → Ordering} {count low high made : ℕ} (o : Ordering) → Counting stands count low high made
    → low < high → stands (middle low high) ≡ o → More stands count low high made o
one_more {stands} {count} {low} {high} {made} o k l is = by_most k.most k.enough k.all
  where
    by_most : (most : ℕ) → high - low ≤ most → made + comparisons_among most stands low high ≡ comparisons_among count
        stands 0 count → More stands count low high made o
    by_most zero e a = absurd (omega arith)
    by_most (suc most) e a = let turned = ap (λ n. made + n) (sym (one_turn most stands low high o l is)) in
        record { most = most; enough = e; all = turned ∙ a }

pub counts_up : {stands : ℕ → Ordering} {count low high made : ℕ} → Counting stands count low high made → low < high
    → stands (middle low high) ≡ Less → Counting stands count (middle low high + 1) high (made + 1)
counts_up k l is =
    let m = one_more Less k l is in
    record { most = m.most; enough = omega arith; all = omega (arith, m.all) }

pub counts_down : {stands : ℕ → Ordering} {count low high made : ℕ} → Counting stands count low high made → low < high
    → stands (middle low high) ≡ Greater → Counting stands count low (middle low high) (made + 1)
counts_down k l is =
    let m = one_more Greater k l is in
    record { most = m.most; enough = omega arith; all = omega (arith, m.all) }

pub counts_found : {stands : ℕ → Ordering} {count low high made : ℕ} → Counting stands count low high made → low < high
    → stands (middle low high) ≡ Equal → made + 1 ≡ comparisons_among count stands 0 count
counts_found k l is = let m = one_more Equal k l is in omega (arith, m.all)

pub counts_none : {stands : ℕ → Ordering} {count low high made : ℕ} → Counting stands count low high made → high ≤ low
    → made ≡ comparisons_among count stands 0 count
counts_none {stands} {low = low} {high} k l = let a = k.all in omega (arith, a, none_left k.most stands low high l)

-- ---- the order of the places alone decides

none_at_all : (p : ℕ → Ordering) (low high : ℕ) → comparisons_among 0 p low high ≡ 0
unfolding comparisons_among
none_at_all p low high = refl

same_turns : (most : ℕ) (p q : ℕ → Ordering) (low high : ℕ) (o : Ordering) → comparisons_among most p (middle low high
    + 1) high ≡ comparisons_among most q (middle low high + 1) high → comparisons_among most p low (middle low high)
    ≡ comparisons_among most q low (middle low high) → turn most p low high o ≡ turn most q low high o
same_turns most p q low high Less up down = ap suc up
same_turns most p q low high Equal up down = refl
same_turns most p q low high Greater up down = ap suc down

-- the same order of each entry gives the same comparisons
pub same_comparisons : (most : ℕ) (p q : ℕ → Ordering) (low high : ℕ) → ((i : ℕ) → i < high → p i ≡ q i)
    → comparisons_among most p low high ≡ comparisons_among most q low high
same_comparisons zero p q low high same = none_at_all p low high ∙ sym (none_at_all q low high)
same_comparisons (suc most) p q low high same = elim (cases_lt low high) [
  | inl l ↦
      let here = q (middle low high) in
      one_turn most p low high here l (same (middle low high) (omega arith)) ∙ same_turns most p q low high here
      (same_comparisons most p q (middle low high + 1) high same) (same_comparisons most p q low (middle low high)
      (λ i k. same i (omega arith))) ∙ sym (one_turn most q low high here l refl)
  | inr l ↦ none_left (suc most) p low high l ∙ sym (none_left (suc most) q low high l)
]

-- ---- each comparison halves the number of remaining keys

-- at most as many comparisons as the bits of the number of entries
pub few_comparisons : (most : ℕ) (stands : ℕ → Ordering) (low high : ℕ)
    → comparisons_among most stands low high ≤ bits (high - low)
few_comparisons zero stands low high = omega (arith, none_at_all stands low high)
few_comparisons (suc most) stands low high = elim (cases_lt low high) [
  | inl l ↦ by_order l (few_comparisons most stands (middle low high + 1) high)
      (few_comparisons most stands low (middle low high)) (stands (middle low high)) refl
  | inr l ↦ omega (arith, none_left (suc most) stands low high l)
]
  where
    half : low < high → (k : ℕ) → k ≤ (high - low) / 2 → bits k + 1 ≤ bits (high - low)
    half l k few = bits_half (high - low) k (omega arith) few

    by_order : low < high
        → comparisons_among most stands (middle low high + 1) high ≤ bits (high - (middle low high + 1))
        → comparisons_among most stands low (middle low high) ≤ bits (middle low high - low) → (o : Ordering)
        → stands (middle low high) ≡ o → comparisons_among (suc most) stands low high ≤ bits (high - low)
    by_order l up down Less e =
        omega (arith, half l (high - (middle low high + 1)) (omega arith), one_turn most stands low high Less l e)
    by_order l up down Equal e = omega (arith, half l 0 (omega arith), one_turn most stands low high Equal l e)
    by_order l up down Greater e =
        omega (arith, half l (middle low high - low) (omega arith), one_turn most stands low high Greater l e)

-- ---- the facts about the keys before and after the remaining ones, and about the comparisons

-- a link leads to one handle, and the order of its key is known
one_order : (m : Memory) (key : Entry) (block i j h : ℕ) (x : Ordering) → j ≡ i → IsEntryLinkTo m block j h
    → order_at m key block i ≡ x → order m key h ≡ x
one_order m key block i j h x q e is =
    sym (ap (λ k. order_at m key block k) (sym q) ∙ ap (λ (o : Option ℕ). order m key (unwrap_or o 0)) e) ∙ is

-- ---- the remaining keys of a search: from `low` on and below `high`

-- the facts about the remaining entries of a search
pub record IsLeft (c : WindowState) (key : Entry) (block count low high made : ℕ) : Type 0 where
  pub rises : low ≤ high
  pub within : high ≤ count
  pub before : (j h : ℕ) → j < low → IsEntryLinkTo (bytes_of c.bytes) block j h → order (bytes_of c.bytes) key h ≡ Less
  pub behind : (j h : ℕ) → high ≤ j → j < count → IsEntryLinkTo (bytes_of c.bytes) block j h
      → order (bytes_of c.bytes) key h ≡ Greater
  pub few : made + bits (high - low) ≤ bits count
  pub counting : Counting (order_at (bytes_of c.bytes) key block) count low high made

-- if a key precedes the wanted one, all keys before it do
pub left_up : {c : WindowState} {key : Entry} {block count low high made : ℕ} → AreKeys c block count key
    → IsLeft c key block count low high made → low < high → order_at (bytes_of c.bytes) key block
    (middle low high) ≡ Less → IsLeft c key block count (middle low high + 1) high (made + 1)
left_up {c} {key} {block} {low = low} {high} keys i l is =
    let m = bytes_of c.bytes in let mid = middle low high in let few = i.few in
    let t = keys.target mid (omega arith) in
    let half = bits_half (high - low) (high - (mid + 1)) (omega arith) (omega arith) in
    record {
      rises = omega arith;
      within = i.within;
      before = λ j h k e. elim (cases_lt j mid) [
        | inl first ↦ less_before m key h t.0 (keys.rises j mid h t.0 first (omega arith) e t.1)
            (one_order m key block mid mid t.0 Less refl t.1 is)
        | inr last ↦ one_order m key block mid j h Less (omega arith) e is
      ];
      behind = i.behind;
      few = omega arith;
      counting = counts_up i.counting l is;
    }

-- the key is before the middle: the lower half is left
pub left_down : {c : WindowState} {key : Entry} {block count low high made : ℕ} → AreKeys c block count key
    → IsLeft c key block count low high made → low < high → order_at (bytes_of c.bytes) key block
    (middle low high) ≡ Greater → IsLeft c key block count low (middle low high) (made + 1)
left_down {c} {key} {block} {low = low} {high} keys i l is =
    let m = bytes_of c.bytes in let mid = middle low high in let few = i.few in
    let t = keys.target mid (omega arith) in let half = bits_half (high - low) (mid - low) (omega arith) (omega arith)
    in
    record {
      rises = omega arith;
      within = omega arith;
      before = i.before;
      behind = λ j h b k e. elim (cases_lt mid j) [
        | inl last ↦ greater_behind m key t.0 h (keys.rises mid j t.0 h last k t.1 e)
            (one_order m key block mid mid t.0 Greater refl t.1 is)
        | inr first ↦ one_order m key block mid j h Greater (omega arith) e is
      ];
      few = omega arith;
      counting = counts_down i.counting l is;
    }

-- the result of a search
pub record Answers (c : WindowState) (key : Entry) (block count made : ℕ) (r : Lookup) : Type 0 where
  -- the place of the key
  pub place : FindsPositionIn (bytes_of c.bytes) key block count r
  pub few : made ≤ bits count
  pub exact : made ≡ comparisons_in (bytes_of c.bytes) key block count

-- the key is that of the middle: it is found
pub left_found : {c : WindowState} {key : Entry} {block count low high made : ℕ}
    → IsLeft c key block count low high made → low < high → order_at (bytes_of c.bytes) key block (middle low high)
    ≡ Equal → Answers c key block count (made + 1) (Found (middle low high))
left_found {c} {key} {block} {low = low} {high} i l is =
    let half = bits_half (high - low) 0 (omega arith) (omega arith) in let few = i.few in
    let mid = middle low high in
    record {
      place = (omega arith, λ h e. one_order (bytes_of c.bytes) key block mid mid h Equal refl e is);
      few = omega arith;
      exact = counts_found i.counting l is;
    }

-- nothing is left: the key is absent
pub left_none : {c : WindowState} {key : Entry} {block count low high made : ℕ} → IsLeft c key block count low high made
    → high ≤ low → Answers c key block count made (Absent low)
left_none i l =
    let few = i.few in
    record {
      place = (omega arith, λ j h k e. (λ f. i.before j h f e, λ f. i.behind j h (omega arith) k e));
      few = omega arith;
      exact = counts_none i.counting l;
    }

-- ---- the entry that is compared

-- an entry below the count has a key
pub entry_of : {c : WindowState} {key : Entry} {block count : ℕ} (i : ℕ) → AreKeys c block count key → i < count
    → IsKeyedEntry c key block i
entry_of {c} {block = block} {count} i keys l =
    let t = keys.target i l in
    record {
      room = room-less (live_of c.bytes) block (8 * count) (8 * i + 8) (omega arith) keys.room;
      handle = t.0;
      leads = t.1;
      keyed = keys.keyed i t.0 l t.1;
    }

-- a property of a heap, a key and a block holds for equal ones
pub same_search : {c v : WindowState} {key k : Entry} {block b : ℕ} (P : WindowState → Entry → ℕ → Type 0)
    → c ≡ v → key ≡ k → block ≡ b → P c key block → P v k b
same_search {c} {key = key} {k} {b = b} P e f g h =
    subst (λ (v : WindowState). P v k b) e (subst (λ (q : Entry). P c q b) f (subst (λ (n : ℕ). P c key n) g h))
