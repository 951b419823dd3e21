-- The reserved bytes of the header.
use Rattle.image_check.proofs.Common.{AreZero, List, bytes_of, false, has_reserved, inl, inr, true, ℕ, ◌≡◌, ◌⊎◌}
use Rattle.std.proofs.lemmas.Bool.{false_from_ne_true}
use Rattle.image_check.specs.HeaderOffsets.{IsFirstNonzero}
use Rattle.image_check.proofs.bytes.Numbers.{from_two_rows, two_rows}

-- zeros pass the test of reserved bytes
pub all-reserved : (b : List ℕ) → AreZero (bytes_of b) 12 16 → AreZero (bytes_of b) 80 128 → has_reserved b ≡ true
all-reserved b h k = from_two_rows (bytes_of b) 12 4 80 48 h k

-- a byte that is not zero fails the test
pub not-reserved : (b : List ℕ) (at : ℕ) → IsFirstNonzero (bytes_of b) 12 16 at ⊎ IsFirstNonzero (bytes_of b) 80 128 at
    → has_reserved b ≡ false
not-reserved b at f = false_from_ne_true (has_reserved b) (λ h. by (two_rows (bytes_of b) 12 4 80 48 h) f)
  where
    by : AreZero (bytes_of b) 12 16 × AreZero (bytes_of b) 80 128
        → IsFirstNonzero (bytes_of b) 12 16 at ⊎ IsFirstNonzero (bytes_of b) 80 128 at → ⊥
    by z (inl s) = s.filled (z.0.at at s.above s.below)
    by z (inr s) = s.filled (z.1.at at s.above s.below)
