-- The order of gaps and probes, by the lengths that are read.
use Rattle.best_fit.proofs.Common.{◌≡◌, ℕ, ◌<◌, ◌≤◌, Bool, ◌&&◌, ◌||◌, sym, ap, ◌∙◌, arith, nat_lt, ◌==◌, lt-ltb}
use Rattle.best_fit.proofs.Common.{le-ltb, eq-eqb, ne_eqb, or_left}

-- a shorter gap precedes a longer one
pub shorter : (k l a b p q : ℕ) → p ≡ k → q ≡ l → p < q → nat_lt p q ≡ (nat_lt k l || ((k == l) && nat_lt a b))
shorter k l a b p q e f h = lt-ltb p q h
    ∙ sym (or_left (nat_lt k l) ((k == l) && nat_lt a b) (lt-ltb k l (omega arith)))

-- two gaps of one length are in the order of their offsets
pub as_long : (k l a b p q : ℕ) → p ≡ k → q ≡ l → q ≤ p → p ≡ q → nat_lt a b ≡ (nat_lt k l || ((k == l) && nat_lt a b))
as_long k l a b p q e f h same =
    sym (ap (λ (x : Bool). x || ((k == l) && nat_lt a b)) (le-ltb k l (omega arith))
    ∙ ap (λ (x : Bool). x && nat_lt a b) (eq-eqb k l (omega arith)))

-- a longer gap follows a shorter one
pub longer : (k l a b p q : ℕ) → p ≡ k → q ≡ l → q ≤ p → (p ≡ q → ⊥)
    → (p == q) ≡ (nat_lt k l || ((k == l) && nat_lt a b))
longer k l a b p q e f h other =
    ne_eqb p q other ∙ sym (ap (λ (x : Bool). x || ((k == l) && nat_lt a b)) (le-ltb k l (omega arith))
    ∙ ap (λ (x : Bool). x && nat_lt a b) (ne_eqb k l (λ same. other (omega arith))))
