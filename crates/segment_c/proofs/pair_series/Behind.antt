-- The pairs of a map from a key on: the first of them is one of the map's pairs, and the others are above its key.
use Rattle.std.proofs.Common.{◌≡◌, refl, sym, ap, subst, ◌∙◌, ℤ, Bool, true, false, not, List, [], ◌∷◌, arith}
use Rattle.std.proofs.Common.{if◌then◌else◌, int_lt}
use Rattle.std.proofs.lemmas.Bool.{eq-eqb, or_left, or_right}
use Rattle.std.specs.Prelude.{nat_eq}
use Rattle.raw_region.proofs.Facts.{first, second}
use Rattle.link_tree.specs.Nodes.{is_in}
use Rattle.seg_map.specs.{Listing.pairs_past, Map.is_rising, Numbers.NumberPair}
use Rattle.seg_map.specs.Places.{is_passed, nodes_of_pairs, pair_node}
use Rattle.seg_types.specs.ScalarLaws.{irreflexive, transitive}

abbrev Rises : List NumberPair → Type 0
Rises ps = is_rising int_lt ps ≡ true

rest-rises : (q : NumberPair) (qs : List NumberPair) → Rises (q ∷ qs) → Rises qs
rest-rises q [] r = refl
rest-rises q (s ∷ qs) r = second (int_lt q.key s.key) (is_rising int_lt (s ∷ qs)) r

next-above : (q s : NumberPair) (qs : List NumberPair) → Rises (q ∷ s ∷ qs) → int_lt q.key s.key ≡ true
next-above q s qs r = first (int_lt q.key s.key) (is_rising int_lt (s ∷ qs)) r

-- a greater key is not passed either
further : (past : Bool) (z x y : ℤ) → (if past then not (int_lt z x) else int_lt x z) ≡ false → int_lt x y ≡ true
    → (if past then not (int_lt z y) else int_lt y z) ≡ false
further true z x y e l = grind arith
further false z x y e l = grind arith

not-above : (x y : ℤ) → int_lt x y ≡ true → int_lt y x ≡ false
not-above x y l = grind arith

abbrev kept : Bool → ℤ → NumberPair → List NumberPair → Bool → List NumberPair
kept past z p ps b = if not b then p ∷ pairs_past int_lt past z ps else pairs_past int_lt past z ps

-- behind a pair that is not passed no pair is
ahead-all : (past : Bool) (z : ℤ) (p : NumberPair) (ps : List NumberPair) → Rises (p ∷ ps)
    → is_passed int_lt past z p ≡ false → pairs_past int_lt past z ps ≡ ps
ahead-all past z p [] r e = refl
ahead-all past z p (q ∷ qs) r e =
    let it : is_passed int_lt past z q ≡ false = further past z p.key q.key e (next-above p q qs r) in
    ap (kept past z q qs) it ∙ ap (λ ts. q ∷ ts) (ahead-all past z q qs (rest-rises p (q ∷ qs) r) it)

all-above : (p : NumberPair) (back : List NumberPair) → Rises (p ∷ back) → pairs_past int_lt true p.key back ≡ back
all-above p [] r = refl
all-above p (q ∷ qs) r =
    let it : is_passed int_lt true p.key q ≡ false = ap not (next-above p q qs r) in
    ap (kept true p.key q qs) it ∙ ap (λ ts. q ∷ ts) (ahead-all true p.key q qs (rest-rises p (q ∷ qs) r) it)

module _ (past : Bool) (z : ℤ) where
  abbrev from : List NumberPair → List NumberPair
  from ps = pairs_past int_lt past z ps

  -- the first pair that is not passed is above each pair before it
  found-above : (p : NumberPair) (qs : List NumberPair) (q : NumberPair) (rest : List NumberPair) → Rises (p ∷ qs)
      → from qs ≡ q ∷ rest → int_lt p.key q.key ≡ true
  found-above p [] q rest r e = absurd (cc)
  found-above p (s ∷ qs) q rest r e =
      by_cases (λ h. found-above s qs q rest (rest-rises p (s ∷ qs) r) h) (is_passed int_lt past z s) refl
    where
      by_cases : (from qs ≡ q ∷ rest → int_lt s.key q.key ≡ true) → (b : Bool) → is_passed int_lt past z s ≡ b
          → int_lt p.key q.key ≡ true
      by_cases next true f =
          transitive p.key s.key q.key (next-above p s qs r) (next (sym (ap (kept past z s qs) f) ∙ e))
      by_cases next false f =
          let two : s ∷ from qs ≡ q ∷ rest = sym (ap (kept past z s qs) f) ∙ e in
          let same : s ≡ q = cc in
          subst (λ (x : NumberPair). int_lt p.key x.key ≡ true) same (next-above p s qs r)

  -- the pairs above the key of the first pair are the others
  pub others-above : (ps : List NumberPair) (q : NumberPair) (rest : List NumberPair) → is_rising int_lt ps ≡ true
      → from ps ≡ q ∷ rest → pairs_past int_lt true q.key ps ≡ rest
  others-above [] q rest r e = absurd (cc)
  others-above (p ∷ qs) q rest r e =
      by_cases (λ h. others-above qs q rest (rest-rises p qs r) h) (is_passed int_lt past z p) refl
    where
      by_cases : (from qs ≡ q ∷ rest → pairs_past int_lt true q.key qs ≡ rest) → (b : Bool)
          → is_passed int_lt past z p ≡ b → pairs_past int_lt true q.key (p ∷ qs) ≡ rest
      by_cases next true f =
          let it : from qs ≡ q ∷ rest = sym (ap (kept past z p qs) f) ∙ e in
          ap (λ b. kept true q.key p qs (not b)) (not-above p.key q.key (found-above p qs q rest r it)) ∙ next it
      by_cases next false f =
          let two : p ∷ from qs ≡ q ∷ rest = sym (ap (kept past z p qs) f) ∙ e in
          let same : p ≡ q = cc in
          let behind : from qs ≡ rest = cc in
          subst (λ (x : NumberPair). pairs_past int_lt true x.key (p ∷ qs) ≡ rest) same
          (ap (λ b. kept true p.key p qs (not b)) (irreflexive p.key) ∙ all-above p qs r
          ∙ sym (ahead-all past z p qs r f) ∙ behind)

  -- the first pair is one of the pairs
  pub among : (ps : List NumberPair) (q : NumberPair) (rest : List NumberPair) → from ps ≡ q ∷ rest
      → is_in (pair_node q) (nodes_of_pairs ps) ≡ true
  among [] q rest e = absurd (cc)
  among (p ∷ ps) q rest e = by_cases (λ h. among ps q rest h) (is_passed int_lt past z p) refl
    where
      by_cases : (from ps ≡ q ∷ rest → is_in (pair_node q) (nodes_of_pairs ps) ≡ true) → (b : Bool)
          → is_passed int_lt past z p ≡ b → is_in (pair_node q) (nodes_of_pairs (p ∷ ps)) ≡ true
      by_cases next true f = or_right (nat_eq (pair_node q) (pair_node p)) (is_in (pair_node q) (nodes_of_pairs ps))
          (next (sym (ap (kept past z p ps) f) ∙ e))
      by_cases next false f =
          let two : p ∷ from ps ≡ q ∷ rest = sym (ap (kept past z p ps) f) ∙ e in
          let same : p ≡ q = cc in
          or_left (nat_eq (pair_node q) (pair_node p)) (is_in (pair_node q) (nodes_of_pairs ps))
          (eq-eqb (pair_node q) (pair_node p) (sym (ap pair_node same)))
