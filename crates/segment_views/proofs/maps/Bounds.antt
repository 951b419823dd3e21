-- The pairs between two bounds of a list whose keys rise: the first of them and those after it, the last and those
-- before it.
use Rattle.std.proofs.Common.{◌≡◌, refl, sym, ap, subst, ◌∙◌, ◌≤◌, ℤ, Bool, true, false, ◌&&◌, not, Option, Some, None}
use Rattle.std.proofs.Common.{List, [], ◌∷◌, ◌++◌, filter, length, map, arith, if◌then◌else◌, inl, inr}
use Rattle.std.specs.Prelude.{find, int_le, int_lt, option_map, reverse, slice_get}
use Rattle.std.proofs.lemmas.Bool.{and_from, and_parts, and_right, cases_Bool}
use Rattle.std.proofs.lemmas.List.{append-nil, map-append, reverse-append, reverse-reverse}
use Rattle.std.proofs.lemmas.List.Elements.{filter-append, filter_agree}
use Rattle.std.proofs.Math.Bool.{and-true, and_comm, not-not}
use Rattle.std.proofs.lemmas.Option.{same_Some}
use Rattle.std.specs.List.{last_or}
use Rattle.std.specs.declared.ops.Bound.{Bound}
use Rattle.std.specs.declared.ops.Bound.TheVariants.{Included, Excluded, Unbounded}
use Rattle.seg_map.specs.Map.{is_rising}
use Rattle.seg_map.specs.Numbers.{NumberPair}
use Rattle.seg_map.specs.Places.{item_of}
use Rattle.seg_map.specs.Listing.{pairs_past}
use Rattle.segment_manager.specs.containers.Maps.{pair_at_end, pair_below, pair_from, pair_up_to}
use Rattle.segment_manager.specs.containers.Walks.{first_of}
use Rattle.segment_views.specs.Ranged.{is_between, is_from, is_up_to, last_between, pairs_from, range_of}

-- ---- pairs that pass a test, as keys and values

abbrev items : (NumberPair → Bool) → List NumberPair → List (ℤ × ℤ)
items t ps = map item_of (filter t ps)

-- a list without a first element is empty
pub range-empty : {A : Type 0} (xs : List A) → slice_get xs 0 ≡ None → xs ≡ []
range-empty [] e = refl
range-empty (x ∷ xs) e = absurd (cc)

-- a pair whose key passes
abbrev pub admitted : (ℤ → Bool) → Option (ℤ × ℤ) → Option (ℤ × ℤ)
admitted far None = None
admitted far (Some (x, y)) = if far x then Some (x, y) else None

-- ---- keys that rise, by an order

module _ (less : ℤ → ℤ → Bool) (transitive : (x y z : ℤ) → less x y ≡ true → less y z ≡ true → less x z ≡ true) where
  -- the key after another is above it, and one may be left out
  next-above : (p q : NumberPair) (qs : List NumberPair) → is_rising less (p ∷ q ∷ qs) ≡ true → less p.key q.key ≡ true
  next-above p q qs r = (and_parts (less p.key q.key) (is_rising less (q ∷ qs)) r).0

  rest-rises : (p : NumberPair) (qs : List NumberPair) → is_rising less (p ∷ qs) ≡ true → is_rising less qs ≡ true
  rest-rises p [] r = refl
  rest-rises p (q ∷ qs) r = (and_parts (less p.key q.key) (is_rising less (q ∷ qs)) r).1

  skip-rises : (p q : NumberPair) (qs : List NumberPair) → is_rising less (p ∷ q ∷ qs) ≡ true
      → is_rising less (p ∷ qs) ≡ true
  skip-rises p q [] r = refl
  skip-rises p q (s ∷ qs) r =
      let rest = rest-rises p (q ∷ s ∷ qs) r in
      and_from (less p.key s.key) (is_rising less (s ∷ qs))
      (transitive p.key q.key s.key (next-above p q (s ∷ qs) r) (next-above q s qs rest)) (rest-rises q (s ∷ qs) rest)

  -- a pair that passes after another is above it
  found-above : (t : NumberPair → Bool) (p : NumberPair) (qs : List NumberPair) (q : NumberPair) (rest : List
      NumberPair) → is_rising less (p ∷ qs) ≡ true → filter t qs ≡ q ∷ rest → less p.key q.key ≡ true
  found-above t p [] q rest r e = absurd (cc)
  found-above t p (s ∷ qs) q rest r e = elim (cases_Bool (t s)) [
    | inl f ↦ let two = rw f at e in let same : s ≡ q = cc in rw (← same) (next-above p s qs r)
    | inr f ↦ found-above t p qs q rest (skip-rises p s qs r) (rw f at e)
  ]

  -- A test, and one for each key: of the key's pair it is false, after a pair that passes it is the test, and before
  -- the pair it is false. So after the first pair that passes there are those that pass the test of its key.
  module _ (t : NumberPair → Bool) (u : ℤ → NumberPair → Bool) (itself : (p : NumberPair) → u p.key p ≡ false)
      (behind : (p q : NumberPair) → less p.key q.key ≡ true → t p ≡ true
      → t q ≡ u p.key q) (before : (x : ℤ) (p : NumberPair) → less p.key x ≡ true → u x p ≡ false) where
    same-behind : (p : NumberPair) (qs : List NumberPair) → t p ≡ true → is_rising less (p ∷ qs) ≡ true
        → filter t qs ≡ filter (u p.key) qs
    same-behind p [] f r = refl
    same-behind p (q ∷ qs) f r =
        rw (same-behind p qs f (skip-rises p q qs r), behind p q (next-above p q qs r) f)

    others : (ps : List NumberPair) (q : NumberPair) (rest : List NumberPair) → is_rising less ps ≡ true
        → filter t ps ≡ q ∷ rest → filter (u q.key) ps ≡ rest
    others [] q rest r e = absurd (cc)
    others (p ∷ qs) q rest r e = elim (cases_Bool (t p)) [
      | inl f ↦
          let two = rw f at e in let same : p ≡ q = cc in let all : filter t qs ≡ rest = cc in
          subst (λ (z : NumberPair). filter (u z.key) (p ∷ qs) ≡ rest) same (rw (itself p, ← same-behind p qs f r) all)
      | inr f ↦
          let later = rw f at e in
          rw (before q.key p (found-above t p qs q rest r later)) (others qs q rest (rest-rises p qs r) later)
    ]

    begins : (ps : List NumberPair) (x y : ℤ) → is_rising less ps ≡ true → slice_get (items t ps) 0 ≡ Some (x, y)
        → items t ps ≡ (x, y) ∷ items (u x) ps
    begins ps x y r e = by_list (filter t ps) refl e
      where
        by_list : (qs : List NumberPair) → filter t ps ≡ qs → slice_get (map item_of qs) 0 ≡ Some (x, y)
            → items t ps ≡ (x, y) ∷ items (u x) ps
        by_list [] f e = absurd (cc)
        by_list (q ∷ qs) f e =
            let pair = same_Some (item_of q) (x, y) e in
            ap (map item_of) f ∙ (λ i. item_of q ∷ map item_of (sym (others ps q qs r f) i))
            ∙ (λ i. pair i ∷ items (u (pair i).0) ps)

  -- A test that is two, of which the second is false after a pair of which it is: the first pair that passes the first
  -- passes both, or none does.
  module _ (t a : NumberPair → Bool) (far : ℤ → Bool) (both : (p : NumberPair)
      → t p ≡ (a p && far p.key)) (past : (p q : NumberPair) → less p.key q.key ≡ true → far p.key ≡ false
      → far q.key ≡ false) where
    none-behind : (p : NumberPair) (qs : List NumberPair) → far p.key ≡ false → is_rising less (p ∷ qs) ≡ true
        → items t qs ≡ []
    none-behind p [] f r = refl
    none-behind p (q ∷ qs) f r =
        rw (both q, and_right (a q) (far q.key) (past p q (next-above p q qs r) f))
        (none-behind p qs f (skip-rises p q qs r))

    admits : (ps : List NumberPair) → is_rising less ps ≡ true
        → slice_get (items t ps) 0 ≡ admitted far (slice_get (items a ps) 0)
    admits [] r = refl
    admits (p ∷ qs) r = rw (both p) (elim (cases_Bool (a p)) [
      | inl f ↦ elim (cases_Bool (far p.key)) [
        | inl g ↦ rw (f, g)
        | inr g ↦ rw (f, g, none-behind p qs g r)
      ]
      | inr f ↦ rw f (admits qs (rest-rises p qs r))
    ])

-- ---- whole numbers

lesser : (x y z : ℤ) → int_lt x y ≡ true → int_lt y z ≡ true → int_lt x z ≡ true
lesser x y z l m = grind arith

abbrev int_gt : ℤ → ℤ → Bool
int_gt x y = int_lt y x

greater : (x y z : ℤ) → int_gt x y ≡ true → int_gt y z ≡ true → int_gt x z ≡ true
greater x y z l m = lesser z y x m l

irreflexive : (x : ℤ) → int_lt x x ≡ false
irreflexive x = grind arith

not-above : (x y : ℤ) → int_lt x y ≡ true → int_lt y x ≡ false
not-above x y l = grind arith

above-from : (b : Bound ℤ) (x y : ℤ) → is_from b x ≡ true → int_lt x y ≡ true → is_from b y ≡ true
above-from (Included a) x y f l = let g : int_le a x ≡ true = f in grind arith
above-from (Excluded a) x y f l = let g : int_lt a x ≡ true = f in grind arith
above-from Unbounded x y f l = refl

below-end : (b : Bound ℤ) (x y : ℤ) → is_up_to b y ≡ true → int_lt x y ≡ true → is_up_to b x ≡ true
below-end (Included a) x y f l = let g : int_le y a ≡ true = f in grind arith
below-end (Excluded a) x y f l = let g : int_lt y a ≡ true = f in grind arith
below-end Unbounded x y f l = refl

past-end : (b : Bound ℤ) (x y : ℤ) → int_lt x y ≡ true → is_up_to b x ≡ false → is_up_to b y ≡ false
past-end (Included a) x y l f = let g : int_le x a ≡ false = f in grind arith
past-end (Excluded a) x y l f = let g : int_lt x a ≡ false = f in grind arith
past-end Unbounded x y l f = absurd (cc)

before-start : (b : Bound ℤ) (x y : ℤ) → int_lt x y ≡ true → is_from b y ≡ false → is_from b x ≡ false
before-start (Included a) x y l f = let g : int_le a y ≡ false = f in grind arith
before-start (Excluded a) x y l f = let g : int_lt a y ≡ false = f in grind arith
before-start Unbounded x y l f = absurd (cc)

-- ---- the other way round

pub reverse-more : {A : Type 0} (x : A) (xs : List A) → reverse (x ∷ xs) ≡ reverse xs ++ x ∷ []
reverse-more x xs = reverse-append (x ∷ []) xs

items-on : (t : NumberPair → Bool) (ps qs : List NumberPair) → items t (ps ++ qs) ≡ items t ps ++ items t qs
items-on t ps qs = ap (map item_of) (filter-append t ps qs) ∙ map-append item_of (filter t ps) (filter t qs)

items-reversed : (t : NumberPair → Bool) (ps : List NumberPair) → items t (reverse ps) ≡ reverse (items t ps)
items-reversed t [] = refl
items-reversed t (p ∷ qs) = ap (items t) (reverse-more p qs) ∙ items-on t (reverse qs) (p ∷ [])
    ∙ ap (λ (xs : List (ℤ × ℤ)). xs ++ items t (p ∷ [])) (items-reversed t qs) ∙ elim (cases_Bool (t p)) [
      | inl f ↦ rw f (sym (reverse-more (item_of p) (items t qs)))
      | inr f ↦ rw f (append-nil (reverse (items t qs)))
    ]

snoc-falls : (rs : List NumberPair) (q p : NumberPair) → is_rising int_gt (rs ++ q ∷ []) ≡ true
    → int_lt p.key q.key ≡ true → is_rising int_gt ((rs ++ q ∷ []) ++ p ∷ []) ≡ true
snoc-falls [] q p r l = and_from (int_gt q.key p.key) true l refl
snoc-falls (s ∷ []) q p r l = and_from (int_gt s.key q.key) (int_gt q.key p.key && true)
    (and_parts (int_gt s.key q.key) true r).0 (and_from (int_gt q.key p.key) true l refl)
snoc-falls (s ∷ t ∷ rs) q p r l =
    let both = and_parts (int_gt s.key t.key) (is_rising int_gt ((t ∷ rs) ++ q ∷ [])) r in
    and_from (int_gt s.key t.key) (is_rising int_gt (((t ∷ rs) ++ q ∷ []) ++ p ∷ [])) both.0
    (snoc-falls (t ∷ rs) q p both.1 l)

falls : (ps : List NumberPair) → is_rising int_lt ps ≡ true → is_rising int_gt (reverse ps) ≡ true
falls [] r = refl
falls (p ∷ []) r = refl
falls (p ∷ q ∷ qs) r =
    let both = and_parts (int_lt p.key q.key) (is_rising int_lt (q ∷ qs)) r in
    let rest = subst (λ (rs : List NumberPair). is_rising int_gt rs ≡ true) (reverse-more q qs) (falls (q ∷ qs) both.1)
    in ap (is_rising int_gt) (reverse-more p (q ∷ qs) ∙ ap (λ (rs : List NumberPair). rs ++ p ∷ []) (reverse-more q qs))
    ∙ snoc-falls (reverse qs) q p rest both.0

-- ---- the first pair between bounds, and the others

module _ (start end : Bound ℤ) where
  itself : (p : NumberPair) → is_between (Excluded p.key) end p ≡ false
  itself p = λ i. irreflexive p.key i && is_up_to end p.key

  behind : (p q : NumberPair) → int_lt p.key q.key ≡ true → is_between start end p ≡ true
      → is_between start end q ≡ is_between (Excluded p.key) end q
  behind p q l f = (λ i. above-from start p.key q.key (and_parts (is_from start p.key) (is_up_to end p.key) f).0 l i
      && is_up_to end q.key) ∙ sym (λ i. l i && is_up_to end q.key)

  before : (z : ℤ) (p : NumberPair) → int_lt p.key z ≡ true → is_between (Excluded z) end p ≡ false
  before z p l = λ i. not-above p.key z l i && is_up_to end p.key

  -- the first pair of a range begins it
  pub range-begins : (ps : List NumberPair) (x y : ℤ) → is_rising int_lt ps ≡ true
      → slice_get (range_of start end ps) 0 ≡ Some (x, y)
      → range_of start end ps ≡ (x, y) ∷ range_of (Excluded x) end ps
  range-begins = begins int_lt lesser (is_between start end) (λ z. is_between (Excluded z) end) itself behind before

  -- after it there are the pairs above its key
  pub pairs-behind : (ps : List NumberPair) (q : NumberPair) (rest : List NumberPair) → is_rising int_lt ps ≡ true
      → filter (is_between start end) ps ≡ q ∷ rest → filter (is_between (Excluded q.key) end) ps ≡ rest
  pairs-behind = others int_lt lesser (is_between start end) (λ z. is_between (Excluded z) end) itself behind before

upper-only : (start end : Bound ℤ) (p : NumberPair)
    → is_between start end p ≡ (is_between start Unbounded p && is_up_to end p.key)
upper-only start end p = ap (λ b. b && is_up_to end p.key) (sym (and-true (is_from start p.key)))

-- it is the first that the lower bound admits, if the upper one does
pub range-within : (start end : Bound ℤ) (ps : List NumberPair) → is_rising int_lt ps ≡ true
    → slice_get (range_of start end ps) 0 ≡ admitted (is_up_to end) (slice_get (range_of start Unbounded ps) 0)
range-within start end ps r = admits int_lt lesser (is_between start end) (is_between start Unbounded)
    (is_up_to end) (upper-only start end) (λ p q l f. past-end end p.key q.key l f) ps r

-- ---- the last pair between bounds, and the others

ends-reversed : (start end : Bound ℤ) (ps : List NumberPair) (x y : ℤ) → is_rising int_gt ps ≡ true
    → slice_get (range_of start end ps) 0 ≡ Some (x, y)
    → range_of start end ps ≡ (x, y) ∷ range_of start (Excluded x) ps
ends-reversed start end ps x y r e =
    begins int_gt greater (is_between start end) (λ z. is_between start (Excluded z)) (λ p.
    and_right (is_from start p.key) (int_lt p.key p.key) (irreflexive p.key))
    (λ p q l f. ap (λ b. is_from start q.key
    && b) (below-end end q.key p.key (and_parts (is_from start p.key) (is_up_to end p.key) f).1 l ∙ sym l))
    (λ z p l. and_right (is_from start p.key) (int_lt p.key z) (not-above z p.key l)) ps x y r e

-- the last pair of a range ends it
pub range-ends : (start end : Bound ℤ) (ps : List NumberPair) (x y : ℤ) → is_rising int_lt ps ≡ true
    → last_between start end ps ≡ Some (x, y)
    → range_of start end ps ≡ range_of start (Excluded x) ps ++ (x, y) ∷ []
range-ends start end ps x y r e =
    sym (reverse-reverse (range_of start end ps))
    ∙ ap reverse (sym (items-reversed (is_between start end) ps)
    ∙ ends-reversed start end (reverse ps) x y (falls ps r) e)
    ∙ reverse-more (x, y) (range_of start (Excluded x) (reverse ps))
    ∙ ap (λ (xs : List (ℤ × ℤ)). xs ++ (x, y) ∷ []) (ap reverse (items-reversed (is_between start (Excluded x)) ps)
    ∙ reverse-reverse (range_of start (Excluded x) ps))

-- a range without a last pair is empty
pub range-none : (start end : Bound ℤ) (ps : List NumberPair) → last_between start end ps ≡ None
    → range_of start end ps ≡ []
range-none start end ps e =
    sym (reverse-reverse (range_of start end ps))
    ∙ ap reverse (sym (items-reversed (is_between start end) ps) ∙ range-empty (range_of start end (reverse ps)) e)

lower-only : (start end : Bound ℤ) (p : NumberPair)
    → is_between start end p ≡ (is_between Unbounded end p && is_from start p.key)
lower-only start end p = and_comm (is_from start p.key) (is_up_to end p.key)

-- it is the last that the upper bound admits, if the lower one does
pub last-within : (start end : Bound ℤ) (ps : List NumberPair) → is_rising int_lt ps ≡ true
    → last_between start end ps ≡ admitted (is_from start) (last_between Unbounded end ps)
last-within start end ps r =
    admits int_gt greater (is_between start end) (is_between Unbounded end) (is_from start) (lower-only start end)
    (λ p q l f. before-start start q.key p.key l f) (reverse ps) (falls ps r)

-- ---- what the searches find

-- the first that passes a test is the first of those that pass it
pub found-first : (s t : NumberPair → Bool) → ((p : NumberPair) → s p ≡ t p) → (ps : List NumberPair)
    → option_map item_of (find s ps) ≡ slice_get (items t ps) 0
found-first s t same [] = refl
found-first s t same (p ∷ qs) = rw (same p) (elim (cases_Bool (t p)) [
  | inl f ↦ rw f
  | inr f ↦ rw f (found-first s t same qs)
])

not-below : (a z : ℤ) → not (int_lt z a) ≡ int_le a z
not-below a z = grind arith

-- the pairs that are listed from a key on
pub from-past : (a : ℤ) (ps : List NumberPair) → pairs_past int_lt false a ps ≡ pairs_from (Included a) ps
from-past a = filter_agree (λ p. not (int_lt p.key a)) (is_between (Included a) Unbounded) (λ p.
    not-below a p.key ∙ sym (and-true (int_le a p.key)))

-- the pairs that are listed above a key
pub above-past : (a : ℤ) (ps : List NumberPair) → pairs_past int_lt true a ps ≡ pairs_from (Excluded a) ps
above-past a = filter_agree (λ p. not (not (int_lt a p.key))) (is_between (Excluded a) Unbounded) (λ p.
    not-not (int_lt a p.key) ∙ sym (and-true (int_lt a p.key)))

still : (x y z : ℤ) → int_lt x y ≡ true → int_lt x z ≡ false → int_lt y z ≡ false
still x y z l f = grind arith

all-above : (z : ℤ) (p : NumberPair) (qs : List NumberPair) → is_rising int_lt (p ∷ qs) ≡ true
    → int_lt p.key z ≡ false → pairs_past int_lt false z (p ∷ qs) ≡ pairs_from Unbounded (p ∷ qs)
all-above z p [] r f = rw f
all-above z p (q ∷ qs) r f =
    rw f (ap (λ (ps : List NumberPair). p ∷ ps) (all-above z q qs (rest-rises int_lt lesser p (q ∷ qs) r)
    (still p.key q.key z (next-above int_lt lesser p q qs r) f)))

-- if the first pair from a key on is the first of all, all pairs are from the key on
pub all-past : (z : ℤ) (ps : List NumberPair) → is_rising int_lt ps ≡ true
    → pair_from z ps ≡ option_map item_of (first_of ps) → pairs_past int_lt false z ps ≡ pairs_from Unbounded ps
all-past z [] r e = refl
all-past z (p ∷ qs) r e = by_cases (int_lt p.key z) refl
  where
    passes : NumberPair → Bool
    passes p = not (int_lt p.key z)

    found : (rest : List NumberPair) → filter passes qs ≡ rest → slice_get (map item_of rest) 0 ≡ Some (p.key, p.value)
        → int_lt p.key p.key ≡ true
    found [] f e = absurd (cc)
    found (q ∷ rest) f e =
        let pair = same_Some (item_of q) (p.key, p.value) e in
        subst (λ (x : ℤ × ℤ). int_lt p.key x.0 ≡ true) pair (found-above int_lt lesser passes p qs q rest r f)

    by_cases : (b : Bool) → int_lt p.key z ≡ b → pairs_past int_lt false z (p ∷ qs) ≡ pairs_from Unbounded (p ∷ qs)
    by_cases false f = all-above z p qs r f
    by_cases true f =
        let later : option_map item_of (find passes qs) ≡ Some (p.key, p.value) = rw f at e in
        let itself = found (filter passes qs) refl (sym (found-first passes passes (λ p. refl) qs) ∙ later) in
        let never = irreflexive p.key in absurd (cc)

-- the first pair of all is the first of the whole range
pub all-ranged : (ps : List NumberPair)
    → option_map item_of (first_of ps) ≡ slice_get (range_of Unbounded Unbounded ps) 0
all-ranged [] = refl
all-ranged (p ∷ ps) = refl

-- the pair up to a key is the last of its range
pub up_to-ranged : (a : ℤ) (ps : List NumberPair) → pair_up_to a ps ≡ last_between Unbounded (Included a) ps
up_to-ranged a ps = found-first (λ p. not (int_lt a p.key)) (is_between Unbounded (Included a)) (λ p.
    not-below p.key a) (reverse ps)

-- the pair below a key is the last of its range
pub below-ranged : (a : ℤ) (ps : List NumberPair) → pair_below a ps ≡ last_between Unbounded (Excluded a) ps
below-ranged a ps = found-first (λ p. int_lt p.key a) (is_between Unbounded (Excluded a)) (λ p. refl) (reverse ps)

-- the last of all is the first from the other end
abbrev first_or : Option NumberPair → List NumberPair → Option NumberPair
first_or o [] = o
first_or o (p ∷ ps) = Some p

first_or-on : (o : Option NumberPair) (ps : List NumberPair) (p : NumberPair)
    → first_or o (ps ++ p ∷ []) ≡ first_or (Some p) ps
first_or-on o [] p = refl
first_or-on o (q ∷ qs) p = refl

first_or-none : (ps : List NumberPair) → first_or None ps ≡ first_of ps
first_or-none [] = refl
first_or-none (p ∷ ps) = refl

last_or-reversed : (o : Option NumberPair) (ps : List NumberPair) → last_or o ps ≡ first_or o (reverse ps)
last_or-reversed o [] = refl
last_or-reversed o (p ∷ qs) = last_or-reversed (Some p) qs ∙ sym (first_or-on o (reverse qs) p)
    ∙ sym (ap (first_or o) (reverse-more p qs))

-- the last pair of all is the last of the whole range
pub end-ranged : (ps : List NumberPair) → pair_at_end ps ≡ last_between Unbounded Unbounded ps
end-ranged ps = ap (option_map item_of) (last_or-reversed None ps ∙ first_or-none (reverse ps))
    ∙ all-ranged (reverse ps)

-- ---- how many

-- a range has at most as many pairs as the list
pub range-few : (start end : Bound ℤ) (ps : List NumberPair) → length (range_of start end ps) ≤ length ps
range-few start end [] = omega arith
range-few start end (p ∷ qs) =
    let few = range-few start end qs in elim (cases_Bool (is_between start end p)) [
      | inl f ↦ rw f (omega (arith, few))
      | inr f ↦ rw f (omega (arith, few))
    ]
