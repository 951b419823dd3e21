-- Numbers and values in a text are bare words, which tell them.
use Rattle.segment_dump.proofs.Common.{◌≡◌, ◌⊎◌, inl, inr, ℕ, zero, suc, ◌/◌, ◌%◌, ◌^◌, ◌<◌, ℤ, pos, negsuc, Bool, true}
use Rattle.segment_dump.proofs.Common.{false, ◌==◌, List, [], ◌∷◌, ◌++◌, if◌then◌else◌, refl, sym, ap, subst, ◌∙◌}
use Rattle.segment_dump.proofs.Common.{arith, ◌≤◌, length, nat_lt, nat_abs, decimal, codes, digit_glyph, digits}
use Rattle.segment_dump.proofs.Common.{digits_onto, signed_decimal, AllByRecursion, list_all, nat_tests}
use Rattle.segment_dump.proofs.Common.{decimal_injective, ScalarKind, U8, U64, is_value, value_text, ints, is_bare}
use Rattle.seg_types.specs.declared.kinds.ScalarKind.TheVariants.{Bool as BoolKind}
use Rattle.std.specs.Int.Signed.{◌≤ℤ◌}
use Rattle.segment_dump.proofs.texts.OneReading.{Breaks, IsToken, heads, tails, tokens-read}
use Rattle.segment_dump.proofs.texts.AllElements.{all-by, all-tested}

-- ---- bare words

-- all bytes of a text are bare
abbrev pub AreBare : List ℕ → Type 0
AreBare = AllByRecursion (λ c. is_bare c ≡ true)

-- a text that passes the test is bare
pub bare-test : (l : List ℕ) → list_all is_bare l ≡ true → AreBare l
bare-test l e = all-tested is_bare (λ c. is_bare c ≡ true) (λ c t. t) l e

bare-high : (c : ℕ) → is_bare c ≡ true → 0x20 < c
bare-high c e = grind (arith, nat_tests)

-- a bare text is a word
pub bare-token : (w : List ℕ) → AreBare w → IsToken w
bare-token w h = all-by (λ c. is_bare c ≡ true) (λ c. 0x20 < c) w h bare-high

-- ---- numbers

-- all bytes of a number are digits
abbrev pub AreDigits : List ℕ → Type 0
AreDigits = AllByRecursion (λ c. (0x2F < c) × (c < 0x3A))

glyph-digit : (d : ℕ) → d < 10 → (0x2F < digit_glyph false d) × (digit_glyph false d < 0x3A)
glyph-digit d h = (grind (arith, nat_tests), grind (arith, nat_tests))

digit-bare : (c : ℕ) → 0x2F < c → c < 0x3A → is_bare c ≡ true
digit-bare c h l = grind (arith, nat_tests)

-- there is one digit at least
pub record IsSome (l : List ℕ) : Type 0 where
  pub digit : ℕ
  pub more : List ℕ
  pub is : l ≡ digit ∷ more
  pub digits : AreDigits (digit ∷ more)

some-if : (b : Bool) (d : ℕ) (acc more : List ℕ) → d < 10 → AreDigits acc → IsSome more
    → IsSome (if b then digit_glyph false d ∷ acc else more)
some-if true d acc more h a p = record {
  digit = digit_glyph false d;
  more = acc;
  is = refl;
  digits
      = (glyph-digit d h, a);
}
some-if false d acc more h a p = p

digits_onto-some : (k n d : ℕ) (acc : List ℕ) → AreDigits (d ∷ acc) → IsSome (digits_onto k 10 false n (d ∷ acc))
digits_onto-some zero n d acc a = record { digit = d; more = acc; is = refl; digits = a }
digits_onto-some (suc k) n d acc a =
    some-if (n / 10 == 0) (n % 10) (d ∷ acc) (digits_onto k 10 false (n / 10) (digit_glyph false (n % 10) ∷ d ∷ acc))
    (omega arith) a
    (digits_onto-some k (n / 10) (digit_glyph false (n % 10)) (d ∷ acc) (glyph-digit (n % 10) (omega arith), a))

-- a decimal number is not empty
pub decimal-some : (n : ℕ) → IsSome (decimal n)
unfolding digits
decimal-some n =
    some-if (n / 10 == 0) (n % 10) [] (digits_onto 63 10 false (n / 10) (digit_glyph false (n % 10) ∷ [])) (omega arith)
    tt (digits_onto-some 63 (n / 10) (digit_glyph false (n % 10)) [] (glyph-digit (n % 10) (omega arith), tt))

decimal-digits : (n : ℕ) → AreDigits (decimal n)
decimal-digits n = let s = decimal-some n in subst AreDigits (sym s.is) s.digits

-- a decimal number is bare
pub decimal-bare : (n : ℕ) → AreBare (decimal n)
decimal-bare n = all-by (λ c. (0x2F < c) × (c < 0x3A)) (λ c. is_bare c ≡ true) (decimal n) (decimal-digits n)
    (λ c h. digit-bare c h.0 h.1)

-- a decimal number is a word
pub decimal-token : (n : ℕ) → IsToken (decimal n)
decimal-token n = bare-token (decimal n) (decimal-bare n)

-- ---- whole numbers

signed-bare : (z : ℤ) → AreBare (signed_decimal z) × (0 < length (signed_decimal z))
signed-bare (pos n) = (decimal-bare n, omega (arith, ap length (decimal-some n).is))
signed-bare (negsuc n) = ((refl, decimal-bare (suc n)), omega arith)

-- from -2 ^ 63 to 2 ^ 64
abbrev IsNear : ℤ → Type 0
IsNear (pos n) = n < 2 ^ 64
IsNear (negsuc n) = suc n < 2 ^ 64

no-minus : (n : ℕ) (cs : List ℕ) → decimal n ≡ 45 ∷ cs → ⊥
no-minus n cs e = let high = subst AreDigits e (decimal-digits n) in omega (arith, high.0.0)

signed-same : (y z : ℤ) → IsNear y → IsNear z → signed_decimal y ≡ signed_decimal z → y ≡ z
signed-same (pos m) (pos n) p q e = ap pos (decimal_injective m n p q e)
signed-same (pos m) (negsuc n) p q e = absurd (no-minus m (decimal (suc n)) e)
signed-same (negsuc m) (pos n) p q e = absurd (no-minus n (decimal (suc m)) (sym e))
signed-same (negsuc m) (negsuc n) p q e =
    let same : decimal (suc m) ≡ decimal (suc n) = tails e in
    ap negsuc (omega (arith, decimal_injective (suc m) (suc n) p q same))

-- ---- values

-- a value of `bool` is 0 or 1
pub bool-near : (z : ℤ) → is_value BoolKind z ≡ true → (z ≡ pos 0) ⊎ (z ≡ pos 1)
bool-near (pos zero) e = inl refl
bool-near (pos (suc zero)) e = inr refl
bool-near (pos (suc (suc n))) e = absurd (grind (arith, nat_tests))
bool-near (negsuc n) e = absurd (cc)

-- a whole number is in the range of all kinds
abbrev pub IsWhole : ℤ → Type 0
IsWhole z = (negsuc 9223372036854775807 ≤ℤ z) × (z ≤ℤ pos 18446744073709551615)

-- a value of a kind is in the range of all kinds
pub in-range : (k : ScalarKind) (z : ℤ) → is_value k z ≡ true → IsWhole z
in-range BoolKind (negsuc n) e = absurd (cc)
in-range U8 (negsuc n) e = absurd (cc)
in-range U64 (negsuc n) e = absurd (cc)
in-range k (pos n) e = let b : n ≤ 18446744073709551615 = grind (arith, nat_tests) in
    (omega (arith, ints), omega (arith, ints))
in-range k (negsuc n) e = let b : n ≤ 9223372036854775807 = grind (arith, nat_tests) in
    (omega (arith, ints), omega (arith, ints))

near : (z : ℤ) → IsWhole z → IsNear z
near (pos n) h = omega (arith, ints, h.1)
near (negsuc n) h = omega (arith, ints, h.0)

truth-bare : (b : Bool) → AreBare (if b then codes "true" else codes "false")
    × (0 < length (if b then codes "true" else codes "false"))
truth-bare true = (bare-test (codes "true") refl, omega arith)
truth-bare false = (bare-test (codes "false") refl, omega arith)

-- the text of a value is bare and not empty
pub value-bare : (k : ScalarKind) (z : ℤ) → AreBare (value_text k z) × (0 < length (value_text k z))
value-bare BoolKind z = truth-bare (nat_lt 0 (nat_abs z))
value-bare k z = signed-bare z

-- the text of a value is a word
pub value-token : (k : ScalarKind) (z : ℤ) → IsToken (value_text k z)
value-token k z = bare-token (value_text k z) (value-bare k z).0

differ : codes "false" ≡ codes "true" → ⊥
differ e = omega (arith, heads e)

truth-same : (y z : ℤ) → (y ≡ pos 0) ⊎ (y ≡ pos 1) → (z ≡ pos 0) ⊎ (z ≡ pos 1)
    → value_text BoolKind y ≡ value_text BoolKind z → y ≡ z
truth-same y z (inl p) (inl q) e = p ∙ sym q
truth-same y z (inl p) (inr q) e = let same : codes "false" ≡ codes "true" =
    ap (value_text BoolKind) (sym p) ∙ e ∙ ap (value_text BoolKind) q in absurd (differ same)
truth-same y z (inr p) (inl q) e = let same : codes "true" ≡ codes "false" =
    ap (value_text BoolKind) (sym p) ∙ e ∙ ap (value_text BoolKind) q in absurd (differ (sym same))
truth-same y z (inr p) (inr q) e = p ∙ sym q

value-same : (k : ScalarKind) (y z : ℤ) → is_value k y ≡ true → is_value k z ≡ true
    → value_text k y ≡ value_text k z → y ≡ z
value-same BoolKind y z p q e = truth-same y z (bool-near y p) (bool-near z q) e
value-same k y z p q e = signed-same y z (near y (in-range k y p)) (near z (in-range k z q)) e

-- two values that begin equal texts are one
pub values-read : (k : ScalarKind) (y z : ℤ) (a b : List ℕ) → is_value k y ≡ true → is_value k z ≡ true → Breaks a
    → Breaks b → value_text k y ++ a ≡ value_text k z ++ b → (y ≡ z) × (a ≡ b)
values-read k y z a b p q f g e =
    let r = tokens-read (value_text k y) (value_text k z) a b (value-token k y) (value-token k z) f g e in
    (value-same k y z p q r.0, r.1)
