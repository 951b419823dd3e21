-- A word is its two half words.
use Rattle.image_check.proofs.Common.{Memory, ap, arith, refl, suc, zero, ℕ, ◌%◌, ◌*◌, ◌+◌, ◌/◌, ◌<◌, ◌^◌, ◌∙◌, ◌≡◌}
use Rattle.std.proofs.Math.Nat.{pow-succ'}
use Rattle.raw_region.specs.Memory.{half_word_at, word_at}
use Rattle.image_check.proofs.bytes.Numbers.{AreSmall, number_at, number_at-small, number_at-suc}

-- ---- a word is two half words

-- the number in some bytes, and above it that in the bytes after
number_at-split : (m : Memory) (at n k j : ℕ) → j ≡ n + k
    → number_at m at j ≡ number_at m at n + 256 ^ n * number_at m (at + n) k
number_at-split m at zero k j e =
    let same : j ≡ k = omega arith in
    let here : at ≡ at + 0 = omega arith in
    let moved : number_at m at j ≡ number_at m (at + 0) k = λ i. number_at m (here i) (same i) in
    omega arith
number_at-split m at (suc n) k j e =
    let same : j ≡ suc (n + k) = omega arith in
    let first = ap (number_at m at) same ∙ number_at-suc m at (n + k) in
    let ih = number_at-split m (at + 1) n k (n + k) refl in
    let front = number_at-suc m at n in
    let here : at + 1 + n ≡ at + suc n = omega arith in
    let moved = ap (λ x. 256 ^ n * number_at m x k) here in
    let power : 256 ^ suc n * number_at m (at + suc n) k ≡ 256 * (256 ^ n * number_at m (at + suc n) k) =
    rw (pow-succ' 256 n) (omega arith) in
    omega arith

-- the lower half word and the upper one
pub word_at-halves : (m : Memory) (at : ℕ) → word_at m at ≡ half_word_at m at + 4294967296 * half_word_at m (at + 4)
unfolding word_at half_word_at
word_at-halves m at = number_at-split m at 4 4 8 refl

-- a half word is below 2 ^ 32
half_word_at-small : (m : Memory) (at : ℕ) → AreSmall m → half_word_at m at < 4294967296
unfolding half_word_at
half_word_at-small m at s = number_at-small m at 4 s

-- so the first is the rest of the word
pub half_word_at-low : (m : Memory) (at : ℕ) → AreSmall m → half_word_at m at ≡ word_at m at % 4294967296
half_word_at-low m at s = let e = word_at-halves m at in let l = half_word_at-small m at s in omega arith

-- and the second its quotient
pub half_word_at-high : (m : Memory) (at : ℕ) → AreSmall m → half_word_at m (at + 4) ≡ word_at m at / 4294967296
half_word_at-high m at s = let e = word_at-halves m at in let l = half_word_at-small m at s in omega arith
