-- The first line end of some bytes.
use Rattle.std.proofs.Common.{◌≡◌, ℕ, zero, suc, ◌+◌, ◌-◌, ◌<◌, inl, inr, Bool, List, [], ◌∷◌, ◌++◌, length}
use Rattle.std.proofs.Common.{slice_index, take, Option, None, Some, sym, ap, ap₂, subst, ◌∙◌, arith}
use Rattle.std.specs.List.{between}
use Rattle.std.proofs.lemmas.Bool.{cases_Bool, cases_lt, cond-true, cond-false, eqb-true, false≢true}
use Rattle.std.proofs.lemmas.List.{take_all, take-append-drop, drop_more}
use Rattle.std.proofs.lemmas.Slice.{between_to_end}
use Rattle.memchr.specs.Find.{IsFirst, IsFirstByte, Nowhere, NoneBefore, Passes, TakesFirst, is_byte, places}
use Rattle.memchr.specs.Find.{places_from}
use Rattle.segment_scripts.specs.Lines.{whole_lines}
use Rattle.segment_scripts.proofs.runs.Lines.{none_ends}

-- ---- what an iterator over the places gives first

-- one place more in front
beyond : (P : ℕ → Type 0) (i j : ℕ) → (P i → ⊥) → Nowhere P (i + 1) j → Nowhere P i j
beyond P i j fails none = λ k low high p. elim (cases_lt i k) [
  | inl more ↦ none k (omega arith) high p
  | inr here ↦ let same : k ≡ i = omega arith in fails (subst P same p)
]

wider : (P : ℕ → Type 0) (i j : ℕ) (r : Option ℕ) → (P i → ⊥) → IsFirst P (i + 1) j r → IsFirst P i j r
wider P i j None fails h = beyond P i j fails h
wider P i j (Some k) fails h = let low = h.0.low
    in (record { low = omega arith; high = h.0.high; before = beyond P i k fails h.0.before }, h.1)

at_head : (P : ℕ → Type 0) (i j : ℕ) (r : Option ℕ) (later left : List ℕ) → i < j → P i
    → TakesFirst (i ∷ later) r left → IsFirst P i j r
at_head P i j None later left room p h = absurd (let none = h.0 in cc)
at_head P i j (Some k) later left room p h =
    let is : i ≡ k = cc in
    (record { low = omega arith; high = omega arith; before = λ m low high _. absurd (omega arith) }, subst P is p)

first_from : (test : ℕ → Bool) (hay : List ℕ) (i n : ℕ) (r : Option ℕ) (left : List ℕ)
    → TakesFirst (places_from test hay i n) r left → IsFirst (Passes test hay) i (i + n) r
unfolding places_from
first_from test hay i zero None left h = λ k low high p. absurd (omega arith)
first_from test hay i zero (Some k) left h = absurd (cc)
first_from test hay i (suc n) r left h = elim (cases_Bool (test (slice_index hay i))) [
  | inl here ↦ at_head (Passes test hay) i (i + suc n) r (places_from test hay (i + 1) n) left (omega arith) here
      (subst (λ (l : List ℕ). TakesFirst l r left) (cond-true _ _ _ here) h)
  | inr other ↦ let more : i + 1 + n ≡ i + suc n = omega arith in
      wider (Passes test hay) i (i + suc n) r (λ here. false≢true (sym other ∙ here))
      (subst (λ (j : ℕ). IsFirst (Passes test hay) (i + 1) j r) more
      (first_from test hay (i + 1) n r left (subst (λ (l : List ℕ). TakesFirst l r left) (cond-false _ _ _ other) h)))
]

-- the first place of a byte is what was found
pub first_state : (test : ℕ → Bool) (hay all left : List ℕ) (r : Option ℕ) → all ≡ places test hay
    → TakesFirst all r left → IsFirstByte test hay r
first_state test hay all left r e h =
    let len : 0 + (length hay - 0) ≡ length hay = omega arith in
    subst (λ (j : ℕ). IsFirst (Passes test hay) 0 j r) len
    (first_from test hay 0 (length hay - 0) r left (subst (λ (l : List ℕ). TakesFirst l r left) e h))

-- ---- what it parts

-- a line ends in what is left of a piece
pub record BeginsWithEnd (rest end more : List ℕ) : Type 0 where
  pub parts : rest ≡ end ++ 0x0A ∷ more
  pub unended : whole_lines end ≡ []

-- it ends at the first line end
pub first_end : (rest : List ℕ) (n : ℕ) → NoneBefore (Passes (is_byte 0x0A) rest) 0 (length rest) n
    → Passes (is_byte 0x0A) rest n
    → BeginsWithEnd rest (take n rest) (between (n + 1) (length rest) rest)
first_end rest n first is = record {
  parts = sym (take-append-drop n rest) ∙ ap (λ (l : List ℕ). take n rest ++ l)
      (drop_more rest n 0 first.high
      ∙ ap₂ (λ (b : ℕ) (l : List ℕ).
      b ∷ l) (eqb-true _ 0x0A is) (sym (between_to_end rest (n + 1) (length rest) (omega arith))));
  unended = none_ends rest n (λ i k. first.before i (omega arith) k);
}

-- or none does
pub no_end : (rest : List ℕ) → Nowhere (Passes (is_byte 0x0A) rest) 0 (length rest) → whole_lines rest ≡ []
no_end rest none = ap whole_lines (sym (take_all (length rest) rest (omega arith)))
    ∙ none_ends rest (length rest) (λ i k. none i (omega arith) k)
