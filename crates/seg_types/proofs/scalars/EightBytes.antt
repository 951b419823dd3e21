-- Eight bytes spell the number that is read from them.
use Rattle.std.proofs.Common.{◌≡◌, ap, ◌∙◌, ℕ, ◌^◌, ◌<◌, refl, List, length, get_or, arith, true, ℤ, pos, negsuc, to_z}
use Rattle.std.proofs.Common.{of_z, w64}
use Rattle.std.proofs.lemmas.Int.{of_z-to_z}
use Rattle.std.proofs.lemmas.Nat.{le_bytes_8}
use Rattle.std.specs.Int.{bytes_low_first, from_le_bytes}
use Rattle.seg_types.specs.declared.kinds.ScalarKind.TheVariants.{I64, U64}
use Rattle.seg_types.specs.Kinds.{is_value, spelling, complement}

-- the numbers of eight bytes
fits : (bytes : List ℕ) → ((i : ℕ) → get_or bytes i 0 < 256) → from_le_bytes w64 bytes < 2 ^ 64
fits bytes small = omega (arith, small 0, small 1, small 2, small 3, small 4, small 5, small 6, small 7)

-- ---- without a sign

in_range-u64 : (n : ℕ) → n < 2 ^ 64 → is_value U64 (pos n) ≡ true
in_range-u64 n f = grind arith

-- eight bytes and their number encode each other
pub reads-u64 : (bytes : List ℕ) (v : ℕ) → length bytes ≡ 8 → ((i : ℕ) → get_or bytes i 0 < 256)
    → v ≡ from_le_bytes w64 bytes → (is_value U64 (pos v) ≡ true) × (spelling U64 (pos v) ≡ bytes)
reads-u64 bytes v len small is = (
  ap (λ (n : ℕ). is_value U64 (pos n)) is ∙ in_range-u64 (from_le_bytes w64 bytes) (fits bytes small),
  le_bytes_8 bytes v len small is,
)

-- ---- with one

complement-bits : (z : ℤ) → complement 8 z ≡ of_z w64 z
complement-bits (pos x) = refl
complement-bits (negsuc x) = omega arith

in_range-i64 : (n : ℕ) → n < 2 ^ 64 → is_value I64 (to_z w64 n) ≡ true
in_range-i64 n f = grind arith

-- v is that number, and goals write it by its bits
pub reads-i64 : (bytes : List ℕ) (v : ℤ) → length bytes ≡ 8 → ((i : ℕ) → get_or bytes i 0 < 256)
    → v ≡ to_z w64 (from_le_bytes w64 bytes) → let z = to_z w64 (of_z w64 v)
    in (is_value I64 z ≡ true) × (spelling I64 z ≡ bytes)
reads-i64 bytes v len small is =
    let n : ℕ = from_le_bytes w64 bytes in
    let f : n < 2 ^ 64 = fits bytes small in
    let bits : of_z w64 v ≡ n = ap (of_z w64) is ∙ of_z-to_z w64 n f in
    let same : to_z w64 (of_z w64 v) ≡ to_z w64 n = ap (to_z w64) bits in
    let low : complement 8 (to_z w64 (of_z w64 v)) ≡ n =
    complement-bits (to_z w64 (of_z w64 v)) ∙ ap (of_z w64) same ∙ of_z-to_z w64 n f in
    (ap (is_value I64) same ∙ in_range-i64 n f, ap (bytes_low_first 0 8) low ∙ le_bytes_8 bytes n len small refl)
