-- Bytes that memory has: one list after another, their fronts and ends, and some of them written over.
use Rattle.std.proofs.Common.{◌≡◌, refl, sym, ap, subst, ◌∙◌, inl, inr, ℕ, ◌+◌, ◌*◌, ◌≤◌, List, ◌∷◌, length, arith, ◌⊎◌}
use Rattle.std.proofs.Common.{zero, suc, ◌++◌, length-append, ◌-◌, take, drop, [], ◌<◌}
use Rattle.std.specs.Prelude.{IsTrue, nat_lt}
use Rattle.std.proofs.lemmas.Bool.{and_from, lt-ltb}
use Rattle.std.proofs.lemmas.List.{length-take, length-drop, drop_at}
use Rattle.raw_region.specs.Memory.{AreBytes, Memory, SameBytesExcept, HasBytesAt, are_bytes, read, patched}
use Rattle.raw_region.proofs.words.Words.{SameBytes-read as read-same}

-- a list with a byte at each place is a list of bytes
pub fits-are_bytes : (b : List ℕ) → AreBytes b → IsTrue (are_bytes b)
fits-are_bytes [] f = refl
fits-are_bytes (x ∷ b) f = and_from (nat_lt x 256) (are_bytes b) (lt-ltb x 256 (f 0))
    (fits-are_bytes b (λ k. f (suc k)))

-- products
pub more-times : (each m n : ℕ) → m ≤ n → each * m ≤ each * n
more-times each m n f = grind arith

pub read-append : (m : Memory) (at a b : ℕ) → read m at (a + b) ≡ read m at a ++ read m (at + a) b
read-append m at zero b = let e1 : 0 + b ≡ b = omega arith in let e2 : at ≡ at + 0 = omega arith in ap (read m at) e1
    ∙ ap (λ k. read m k b) e2
read-append m at (suc a) b =
    let e1 : suc a + b ≡ suc (a + b) = omega arith in let e2 : at + 1 + a ≡ at + suc a = omega arith in
    ap (read m at) e1 ∙ ap (λ ws. m at ∷ ws) (read-append m (at + 1) a b ∙ ap (λ k. read m (at + 1) a ++ read m k b) e2)

-- bytes that follow each other in memory are there as one list
pub HasBytesAt-append : (m : Memory) (at : ℕ) (xs ys : List ℕ) → HasBytesAt m at xs
    → HasBytesAt m (at + length xs) ys → HasBytesAt m at (xs ++ ys)
HasBytesAt-append m at xs ys h k = ap (read m at) (length-append xs ys) ∙ read-append m at (length xs) (length ys)
    ∙ (λ i. h i ++ k i)

-- a reading of `n` bytes is a list of `n`
pub length-read : (m : Memory) (at n : ℕ) → length (read m at n) ≡ n
length-read m at zero = refl
length-read m at (suc n) = ap (λ k. suc k) (length-read m (at + 1) n)

read-take : (m : Memory) (at k n : ℕ) → k ≤ n → take k (read m at n) ≡ read m at k
read-take m at zero n f = refl
read-take m at (suc k) zero f = absurd (omega arith)
read-take m at (suc k) (suc n) f = ap (λ ws. m at ∷ ws) (read-take m (at + 1) k n (omega arith))

read-drop : (m : Memory) (at k n : ℕ) → drop k (read m at (k + n)) ≡ read m (at + k) n
read-drop m at k n = ap (drop k) (read-append m at k n) ∙ drop_at (read m at k) (read m (at + k) n) k
    (length-read m at k)

-- if memory has a list of bytes at an offset, it has the list's front there
pub HasBytesAt-take : (m : Memory) (at k : ℕ) (bytes : List ℕ) → k ≤ length bytes → HasBytesAt m at bytes
    → HasBytesAt m at (take k bytes)
HasBytesAt-take m at k bytes f h =
    let e : length (take k bytes) ≡ k = omega (arith, length-take k bytes, f) in
    ap (read m at) e ∙ sym (read-take m at k (length bytes) f) ∙ ap (take k) h

-- the rest of bytes that stand somewhere stands after their front
pub HasBytesAt-drop : (m : Memory) (at k : ℕ) (bytes : List ℕ) → k ≤ length bytes → HasBytesAt m at bytes
    → HasBytesAt m (at + k) (drop k bytes)
HasBytesAt-drop m at k bytes f h =
    let e : length (drop k bytes) ≡ length bytes - k = omega (arith, length-drop k bytes) in
    let sum : k + (length bytes - k) ≡ length bytes = omega (arith, f) in
    ap (read m (at + k)) e ∙ sym (read-drop m at k (length bytes - k)) ∙ ap (drop k) (ap (read m at) sum ∙ h)

-- bytes outside a range that is written stay
pub HasBytesAt-beside : {m m' : Memory} {from n : ℕ} (at : ℕ) (bytes : List ℕ) → SameBytesExcept m m' from n
    → (at + length bytes ≤ from) ⊎ (from + n ≤ at) → HasBytesAt m at bytes → HasBytesAt m' at bytes
HasBytesAt-beside {m} {m'} at bytes s (inl f) h = read-same m m' at (at + length bytes) at (length bytes)
    (record { at = λ k a b. s.at k (inl (omega (arith, f, b))) }) (omega arith) (omega arith) ∙ h
HasBytesAt-beside {m} {m'} at bytes s (inr f) h = read-same m m' at (at + length bytes) at (length bytes)
    (record { at = λ k a b. s.at k (inr (omega (arith, f, a))) }) (omega arith) (omega arith) ∙ h

-- bytes of which a part is written over are the patched list
pub HasBytesAt-patched : {m m' : Memory} (g from : ℕ) (bytes more : List ℕ) → from + length more ≤ length bytes
    → SameBytesExcept m m' (g + from) (length more) → HasBytesAt m g bytes → HasBytesAt m' (g + from) more
    → HasBytesAt m' g (patched bytes from more)
HasBytesAt-patched {m} {m'} g from bytes more f s h k =
    let n : ℕ = from + length more in
    let short : length (take from bytes) ≡ from = omega (arith, length-take from bytes, f) in
    let both : length (take from bytes ++ more) ≡ n = omega (arith, length-append (take from bytes) more, short) in
    let a = HasBytesAt-beside g (take from bytes) s (inl (omega (arith, short)))
    (HasBytesAt-take m g from bytes (omega (arith, f)) h) in
    let b : HasBytesAt m' (g + length (take from bytes)) more = subst (λ j. HasBytesAt m' (g + j) more) (sym short) k in
    let c = HasBytesAt-beside (g + n) (drop n bytes) s (inr (omega arith)) (HasBytesAt-drop m g n bytes f h) in
    HasBytesAt-append m' g (take from bytes ++ more) (drop n bytes) (HasBytesAt-append m' g (take from bytes) more a b)
    (subst (λ j. HasBytesAt m' (g + j) (drop n bytes)) (sym both) c)

-- a patched list is as long as before
pub length-patch : (bytes : List ℕ) (from : ℕ) (more : List ℕ) → from + length more ≤ length bytes
    → length (patched bytes from more) ≡ length bytes
length-patch bytes from more f = omega (
  arith,
  length-append (take from bytes ++ more) (drop (from + length more) bytes),
  length-append (take from bytes) more,
  length-take from bytes,
  length-drop (from + length more) bytes,
  f,
)
