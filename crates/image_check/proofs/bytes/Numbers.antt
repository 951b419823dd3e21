-- Bytes and their numbers: the size of a word, its bytes, and the words of zeros.
use Rattle.image_check.proofs.Common.{AllByRecursion, AreZero, IsTrue, List, Memory, [], and_from, and_parts, ap}
use Rattle.image_check.proofs.Common.{are_bytes, arith, bytes_of, cases_lt, eq-eqb, eqb-true, is_zero, length}
use Rattle.image_check.proofs.Common.{list_all-append, little_number, ltb-true, nat_lt, read, refl, slice_index}
use Rattle.image_check.proofs.Common.{subst, suc, sym, zero, ℕ, ◌*◌, ◌++◌, ◌+◌, ◌<◌, ◌==◌, ◌^◌, ◌∙◌, ◌∷◌, ◌≡◌, ◌≤◌}
use Rattle.std.specs.Int.{bytes_low_first}
use Rattle.byteorder.specs.Numbers.{little_from-cons}
use Rattle.raw_region.specs.Memory.{half_word_at}
use Rattle.seg_types.proofs.Laws.{bytes-back, number-small}
use mathlib.Core.Logic.{⊎_elim}

-- ---- memory whose bytes are below 256

-- each byte is below 256
pub record AreSmall (m : Memory) : Type 0 where
  pub at : (k : ℕ) → m k < 256

-- a byte of a list of bytes, or 0 after its end
slice_index-small : (b : List ℕ) (k : ℕ) → IsTrue (are_bytes b) → slice_index b k < 256
slice_index-small [] k h = omega arith
slice_index-small (x ∷ b) zero h = ltb-true x 256 (and_parts (nat_lt x 256) (are_bytes b) h).0
slice_index-small (x ∷ b) (suc k) h = slice_index-small b k (and_parts (nat_lt x 256) (are_bytes b) h).1

-- a list of bytes is such a memory
pub are_bytes-AreSmall : (b : List ℕ) → IsTrue (are_bytes b) → AreSmall (bytes_of b)
are_bytes-AreSmall b h = record { at = λ k. slice_index-small b k h }

-- ---- the number in n bytes

-- the number in the n bytes from an offset on
abbrev pub number_at : Memory → ℕ → ℕ → ℕ
number_at m at n = little_number n (read m at n)

-- the first byte, and 256 times the number in the others
pub number_at-suc : (m : Memory) (at n : ℕ) → number_at m at (suc n) ≡ m at + 256 * number_at m (at + 1) n
number_at-suc m at n = ap (λ x. m at + 256 * x) (little_from-cons 0 n (m at) (read m (at + 1) n))

-- n bytes are n
pub read-length : (m : Memory) (at n : ℕ) → length (read m at n) ≡ n
read-length m at zero = refl
read-length m at (suc n) = ap suc (read-length m (at + 1) n)

read-small : (m : Memory) (at n : ℕ) → AreSmall m → AllByRecursion (λ b. b < 256) (read m at n)
read-small m at zero s = tt
read-small m at (suc n) s = (s.at at, read-small m (at + 1) n s)

-- they are a number below 256 ^ n
pub number_at-small : (m : Memory) (at n : ℕ) → AreSmall m → number_at m at n < 256 ^ n
number_at-small m at n s = subst (λ (k : ℕ). little_number k (read m at n) < 256 ^ k) (read-length m at n)
    (number-small (read m at n) (read-small m at n s))

-- and the bytes of that number are these bytes
pub bytes_low_first-number_at : (m : Memory) (at n : ℕ) → AreSmall m
    → bytes_low_first 0 n (number_at m at n) ≡ read m at n
bytes_low_first-number_at m at n s =
    subst (λ (k : ℕ). bytes_low_first 0 k (little_number k (read m at n)) ≡ read m at n) (read-length m at n)
    (bytes-back (read m at n) (read-small m at n s))

-- ---- zeros

-- no bytes are zeros
pub AreZero-none : (m : Memory) (at : ℕ) → AreZero m at (at + 0)
AreZero-none m at = record { at = λ k f g. absurd (omega arith) }

-- a zero and zeros after it
pub AreZero-cons : (m : Memory) (at n : ℕ) → m at ≡ 0 → AreZero m (at + 1) (at + 1 + n) → AreZero m at (at + suc n)
AreZero-cons m at n e z = record {
  at = λ k f g.
      ⊎_elim (λ l. z.at k (omega arith) (omega arith)) (λ l. let same : k ≡ at = omega arith
      in ap m same ∙ e) (cases_lt at k);
}

-- a part of zeros
pub AreZero-within : (m : Memory) (a b c d : ℕ) → a ≤ c → d ≤ b → AreZero m a b → AreZero m c d
AreZero-within m a b c d f g z = record { at = λ k h l. z.at k (omega arith) (omega arith) }

-- the test of zeros is exact
pub is_zero-AreZero : (m : Memory) (at n : ℕ) → IsTrue (is_zero (read m at n)) → AreZero m at (at + n)
is_zero-AreZero m at zero h = AreZero-none m at
is_zero-AreZero m at (suc n) h =
    let parts = and_parts (m at == 0) (is_zero (read m (at + 1) n)) h in
    AreZero-cons m at n (eqb-true (m at) 0 parts.0) (is_zero-AreZero m (at + 1) n parts.1)

-- zeros pass the test
pub AreZero-is_zero : (m : Memory) (at n : ℕ) → AreZero m at (at + n) → IsTrue (is_zero (read m at n))
AreZero-is_zero m at zero z = refl
AreZero-is_zero m at (suc n) z =
    and_from (m at == 0) (is_zero (read m (at + 1) n))
    (eq-eqb (m at) 0 (z.at at (omega arith) (omega arith)))
    (AreZero-is_zero m (at + 1) n (AreZero-within m at (at + suc n) (at + 1) (at + 1 + n) (omega arith)
    (omega arith) z))

-- zeros are the number 0
pub AreZero-number_at : (m : Memory) (at n : ℕ) → AreZero m at (at + n) → number_at m at n ≡ 0
AreZero-number_at m at zero z = refl
AreZero-number_at m at (suc n) z =
    let first = z.at at (omega arith) (omega arith) in
    let rest = AreZero-number_at m (at + 1) n
    (AreZero-within m at (at + suc n) (at + 1) (at + 1 + n) (omega arith) (omega arith) z) in
    let e = number_at-suc m at n in
    omega arith

-- and the number 0 is spelled by zeros
pub number_at-AreZero : (m : Memory) (at n : ℕ) → number_at m at n ≡ 0 → AreZero m at (at + n)
number_at-AreZero m at zero e = AreZero-none m at
number_at-AreZero m at (suc n) e =
    let f = number_at-suc m at n in
    AreZero-cons m at n (omega arith) (number_at-AreZero m (at + 1) n (omega arith))

-- ---- words and half words

-- a half word is 0 where its bytes are
pub AreZero-half_word_at : (m : Memory) (at : ℕ) → AreZero m at (at + 4) → half_word_at m at ≡ 0
unfolding half_word_at
AreZero-half_word_at m at z = AreZero-number_at m at 4 z

-- and back
pub half_word_at-AreZero : (m : Memory) (at : ℕ) → half_word_at m at ≡ 0 → AreZero m at (at + 4)
unfolding half_word_at
half_word_at-AreZero m at e = number_at-AreZero m at 4 e

-- ---- two rows of bytes

-- two rows of zeros
pub two_rows : (m : Memory) (a n c k : ℕ) → IsTrue (is_zero (read m a n ++ read m c k))
    → AreZero m a (a + n) × AreZero m c (c + k)
two_rows m a n c k h =
    let split = sym (list_all-append (λ x. x == 0) (read m a n) (read m c k)) ∙ h in
    let parts = and_parts (is_zero (read m a n)) (is_zero (read m c k)) split in
    (is_zero-AreZero m a n parts.0, is_zero-AreZero m c k parts.1)

-- pass the test of both
pub from_two_rows : (m : Memory) (a n c k : ℕ) → AreZero m a (a + n) → AreZero m c (c + k)
    → IsTrue (is_zero (read m a n ++ read m c k))
from_two_rows m a n c k y z =
    list_all-append (λ x. x == 0) (read m a n) (read m c k)
    ∙ and_from (is_zero (read m a n)) (is_zero (read m c k)) (AreZero-is_zero m a n y) (AreZero-is_zero m c k z)
