-- Handles by piece, as the pieces become wider.
use Rattle.best_fit.proofs.Common.{◌≡◌, refl, sym, ap, subst, ◌∙◌, ℕ, zero, suc, ◌+◌, ◌<◌, ◌≤◌, ◌⊎◌, inl, inr}
use Rattle.best_fit.proofs.Common.{List, [], ◌∷◌, slice_index, arith, cases_lt, slot_of}
use Rattle.std.proofs.lemmas.List.{get_or-set_other}
use Rattle.std.specs.Prelude.{slice_set}

-- a place that is read after one was set has its old value, or the new one
set_either : (xs : List ℕ) (at v i : ℕ)
    → (slice_index (slice_set xs at v) i ≡ slice_index xs i) ⊎ ((i ≡ at) × (slice_index (slice_set xs at v) i ≡ v))
set_either [] at v i = inl refl
set_either (x ∷ xs) zero v zero = inr (refl, refl)
set_either (x ∷ xs) zero v (suc i) = inl refl
set_either (x ∷ xs) (suc at) v zero = inl refl
set_either (x ∷ xs) (suc at) v (suc i) =
    elim (set_either xs at v i) [ inl same ↦ inl same | inr there ↦ inr (ap suc there.0, there.1) ]

-- a place that was set to 0 contains no handle
set_zero : (xs : List ℕ) (at : ℕ) → slice_index (slice_set xs at 0) at ≡ 0
set_zero [] at = refl
set_zero (x ∷ xs) zero = refl
set_zero (x ∷ xs) (suc at) = set_zero xs at

-- The handles before the pieces and from piece k on are unchanged, and each handle in a wider piece before k was in its
-- shorter piece.
pub record Widened (shorter wider : ℕ) (old now : List ℕ) (k : ℕ) : Type 0 where
  pub front : (i : ℕ) → i < 256 → slice_index now i ≡ slice_index old i
  pub ahead : (i : ℕ) → k ≤ i → slice_index now i ≡ slice_index old i
  pub behind : (h : ℕ) → 0 < h → slot_of wider h < k → slice_index now (slot_of wider h) ≡ h
      → slice_index old (slot_of shorter h) ≡ h

-- the next piece is emptied
pub widened_clear : (shorter wider : ℕ) (old now : List ℕ) (k : ℕ) → 256 ≤ k → Widened shorter wider old now k
    → Widened shorter wider old (slice_set now k 0) (k + 1)
widened_clear shorter wider old now k far x =
    record {
      front = λ i less. get_or-set_other now k i 0 0 (λ e. omega arith) ∙ x.front i less;
      ahead = λ i le. get_or-set_other now k i 0 0 (λ e. omega arith) ∙ x.ahead i (omega arith);
      behind = λ h pos below e. elim (set_either now k 0 (slot_of wider h)) [
        | inl stays ↦ elim (cases_lt (slot_of wider h) k) [
          | inl less ↦ x.behind h pos less (sym stays ∙ e)
          | inr not_less ↦
              let here : slot_of wider h ≡ k = omega arith in
              let gone = subst (λ i. slice_index (slice_set now k 0) i ≡ 0) (sym here) (set_zero now k) in
              absurd (omega arith)
        ]
        | inr there ↦ let none = there.1 in absurd (omega arith)
      ];
    }

-- and its handle is entered in a wider piece that is already passed
pub widened_hint : (shorter wider : ℕ) (old now next : List ℕ) (k v : ℕ) → 256 ≤ k → Widened shorter wider old now k
    → slice_index now k ≡ v → slot_of shorter v ≡ k → slot_of wider v ≤ k
    → ((i : ℕ) → (slice_index next i ≡ slice_index (slice_set now k 0) i)
    ⊎ ((i ≡ slot_of wider v) × (slice_index next i ≡ v)))
    → Widened shorter wider old next (k + 1)
widened_hint shorter wider old now next k v far x is home near noted =
    let y = widened_clear shorter wider old now k far x in
    record {
      front = λ i less. elim (noted i) [
        | inl stays ↦ stays ∙ y.front i less
        | inr there ↦ let at = there.0 in absurd (omega arith)
      ];
      ahead = λ i le. elim (noted i) [
        | inl stays ↦ stays ∙ y.ahead i le
        | inr there ↦ let at = there.0 in absurd (omega arith)
      ];
      behind = λ h pos below e. elim (noted (slot_of wider h)) [
        | inl stays ↦ y.behind h pos below (sym stays ∙ e)
        | inr there ↦
            subst (λ u. slice_index old (slot_of shorter u) ≡ u) (sym there.1 ∙ e)
            (ap (slice_index old) home ∙ sym (x.ahead k (omega arith)) ∙ is)
      ];
    }
