-- Bytes that are 0, by a test that computes.
use Rattle.std.proofs.Common.{◌≡◌, subst, ℕ, zero, suc, ◌+◌, ◌<◌, ◌≤◌, Bool, true, ◌&&◌, ◌==◌, IsTrue, arith, inl, inr}
use Rattle.std.proofs.Math.Nat.{eq-or-lt_of_le}
use Rattle.raw_region.specs.Memory.{Memory, AreZero}

-- whether bytes are zero, as a test
abbrev pub are_zero : Memory → ℕ → ℕ → Bool
are_zero m at zero = true
are_zero m at (suc n) = (m at == 0) && are_zero m (at + 1) n

abbrev Zero : Memory → ℕ → Type 0
Zero m k = m k ≡ 0

each_zero : (m : Memory) (n at k : ℕ) → IsTrue (are_zero m at n) → at ≤ k → k < at + n → Zero m k
each_zero m zero at k h low high = absurd (omega arith)
each_zero m (suc n) at k h low high = elim (eq-or-lt_of_le low) [
  | inl e ↦ let first : m at ≡ 0 = grind (arith, h) in subst (Zero m) e first
  | inr later ↦ each_zero m n (at + 1) k (grind (arith, h)) (omega (arith, later)) (omega (arith, high))
]

-- bytes that pass the test are zero
pub zero_bytes : (m : Memory) (from n : ℕ) → IsTrue (are_zero m from n) → AreZero m from (from + n)
zero_bytes m from n h = record { at = λ k low high. each_zero m n from k h low high }
