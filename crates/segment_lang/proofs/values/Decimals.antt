-- Numbers and their decimal texts.
use Rattle.std.proofs.Common.{◌≡◌, ℕ, zero, suc, ℤ, pos, negsuc, ◌≤ℤ◌, ◌+◌, ◌*◌, ◌-◌, ◌≤◌, ◌<◌, ◌^◌, ◌&&◌, ◌==◌, Bool}
use Rattle.std.proofs.Common.{true, false, cond, List, [], ◌∷◌, length, drop, get_or, Option, Some, None, arith, rules}
use Rattle.std.proofs.Common.{refl, sym, ap, subst, ◌∙◌}
use Rattle.std.proofs.lemmas.Int.{ints}
use Rattle.std.specs.Prelude.{nat_le, nat_lt, decimal}
use Rattle.std.specs.Option.{option_map}
use Rattle.std.specs.List.{list_all}
use Rattle.std.specs.Fmt.{signed_decimal}
use Rattle.std.proofs.lemmas.Bool.{and_parts, le-leb, leb-true, lt-ltb, ltb-true}
use Rattle.std.proofs.lemmas.Bool.Decides.{nat_tests}
use Rattle.std.proofs.lemmas.Option.{cond_some}
use Rattle.std.proofs.lemmas.Str.Parse.{IsNumeralModel, numerals_by_fold}
use Rattle.std.proofs.lemmas.Fmt.{decimal-digits_value, decimal_digit, decimal_nonempty, digits_decimal}
use Rattle.std.proofs.lemmas.Fmt.{digits_value-decimal, first_decimal}
use Rattle.segment_lang.specs.Lexing.{number_after, is_numeral, is_digit, between, number_of, negative_of, whole_of}
use Rattle.segment_lang.specs.Laws.{NumbersAreDecimals, WholesAreDecimals}

-- further digits make no number smaller
pub number_after-le : (n : ℕ) (ds : List ℕ) → n ≤ number_after n ds
number_after-le n [] = omega arith
number_after-le n (d ∷ ds) = let h = number_after-le (10 * n + (d - 0x30)) ds in omega arith

-- further digits make a number no less
pub further_digits : (n : ℕ) (ds : List ℕ) → 1 ≤ length ds → 10 * n + (get_or ds 0 0 - 0x30) ≤ number_after n ds
further_digits n [] h = absurd (omega arith)
further_digits n (d ∷ ds) h = number_after-le (10 * n + (d - 0x30)) ds

pub next_digit : (n : ℕ) (ds : List ℕ) → 1 ≤ length ds
    → number_after n ds ≡ number_after (10 * n + (get_or ds 0 0 - 0x30)) (drop 1 ds)
next_digit n [] h = absurd (omega arith)
next_digit n (d ∷ ds) h = refl

pub no_further_digits : (n : ℕ) (ds : List ℕ) → length ds < 1 → number_after n ds ≡ n
no_further_digits n [] h = refl
no_further_digits n (d ∷ ds) h = absurd (omega arith)

-- the rules of digits
pub ruleset digits = (further_digits, no_further_digits, next_digit)

-- of two digits or more the first is not 0
pub long_numeral : (w : List ℕ) → 2 ≤ length w
    → is_numeral w ≡ (between 0x31 0x39 (get_or w 0 0) && list_all is_digit (drop 1 w))
long_numeral [] h = absurd (omega arith)
long_numeral (d ∷ []) h = absurd (omega arith)
long_numeral (d ∷ e ∷ ds) h = refl

-- ---- the spelling of a number

own : IsNumeralModel (λ ds. list_all is_digit ds ≡ true) (number_after 0)
own = numerals_by_fold _ (search rules) number_after (search rules)

abbrev no_leading_zero : List ℕ → Type 0
no_leading_zero w = (list_all is_digit w ≡ true) × (0 < length w) × (get_or w 0 0 ≡ 48 → length w ≡ 1)

first_digit : (d : ℕ) → between 0x31 0x39 d ≡ true → (is_digit d ≡ true) × (48 < d)
first_digit d h = (grind (arith, nat_tests), grind (arith, nat_tests))

numeral_parts : (w : List ℕ) → is_numeral w ≡ true → no_leading_zero w
numeral_parts [] h = cc
numeral_parts (d ∷ []) h = (rw h refl, omega arith, λ e. refl)
numeral_parts (d ∷ e ∷ ds) h =
    let p = and_parts (between 0x31 0x39 d) (list_all is_digit (e ∷ ds)) h in
    let f = first_digit d p.0 in
    (rw f.0 p.1, omega arith, λ e. absurd (omega (arith, f.1)))

high_digit : (d : ℕ) → is_digit d ≡ true → 48 < d → between 0x31 0x39 d ≡ true
high_digit d h k = grind (arith, nat_tests)

parts_numeral : (w : List ℕ) → list_all is_digit w ≡ true → 0 < length w → 48 < get_or w 0 0 → is_numeral w ≡ true
parts_numeral [] h k l = absurd (omega arith)
parts_numeral (d ∷ []) h k l = (and_parts (is_digit d) true h).0
parts_numeral (d ∷ e ∷ ds) h k l = let p = and_parts (is_digit d) (list_all is_digit (e ∷ ds)) h in
    rw (high_digit d p.0 l) p.1

decimal_numeral : (n : ℕ) → n < 2 ^ 64 → is_numeral (decimal n) ≡ true
decimal_numeral zero h = rw (decimal_digit 0 (omega arith)) refl
decimal_numeral (suc n) h = parts_numeral (decimal (suc n)) (digits_decimal own (suc n) h) (decimal_nonempty (suc n) h)
    (first_decimal (suc n) (omega arith) h)

numeral_decimal : (w : List ℕ) → is_numeral w ≡ true → number_after 0 w < 2 ^ 64 → w ≡ decimal (number_after 0 w)
numeral_decimal w h f = let p = numeral_parts w h in sym (decimal-digits_value own w p.0 p.1 p.2 f)

number_is : (w : List ℕ) (n : ℕ) → number_of w ≡ Some n → (n < 2 ^ 64) × (w ≡ decimal n)
number_is w n h =
    let t = cond_some (is_numeral w && nat_le (number_after 0 w) 18446744073709551615) (number_after 0 w) n h in
    let p = and_parts (is_numeral w) (nat_le (number_after 0 w) 18446744073709551615) t.0 in
    let v : number_after 0 w ≤ 18446744073709551615 = leb-true _ _ p.1 in
    let f : number_after 0 w < 2 ^ 64 = omega arith in
    (rw (← t.1) f, numeral_decimal w p.0 f ∙ ap decimal t.1)

number_of-decimal : (n : ℕ) → n < 2 ^ 64 → number_of (decimal n) ≡ Some n
number_of-decimal n h =
    let v = digits_value-decimal own n h in
    let b : n ≤ 18446744073709551615 = omega arith in
    rw (decimal_numeral n h, v, le-leb n 18446744073709551615 b) refl

-- law: numbers are decimals
pub numbers_are_decimals : NumbersAreDecimals
numbers_are_decimals w n = (
  number_is w n,
  λ (h : (n < 2 ^ 64) × (w ≡ decimal n)). ap number_of h.1
      ∙ number_of-decimal n h.0,
)

-- ---- whole numbers

abbrev IsWhole : List ℕ → ℤ → Type 0
IsWhole w z = (negsuc 9223372036854775807 ≤ℤ z) × (z ≤ℤ pos 18446744073709551615) × (w ≡ signed_decimal z)

negative_whole : (v : ℕ) (w : List ℕ) → w ≡ decimal v → 0 < v → v ≤ 9223372036854775808
    → IsWhole (45 ∷ w) (negsuc (v - 1))
negative_whole v w e p m =
    let s : v ≡ suc (v - 1) = omega arith in
    (omega (arith, ints), omega (arith, ints), ap (λ w. 45 ∷ w) (e ∙ ap decimal s))

negative_is : (w : List ℕ) (z : ℤ) → negative_of w ≡ Some z → IsWhole (45 ∷ w) z
negative_is w z h =
    let v = number_after 0 w in
    let t = cond_some (is_numeral w && nat_lt 0 v && nat_le v 9223372036854775808) (negsuc (v - 1)) z h in
    let p = and_parts (is_numeral w && nat_lt 0 v) (nat_le v 9223372036854775808) t.0 in
    let q = and_parts (is_numeral w) (nat_lt 0 v) p.0 in
    let m : v ≤ 9223372036854775808 = leb-true v _ p.1 in
    let f : v < 2 ^ 64 = omega arith in
    subst (IsWhole (45 ∷ w)) t.1 (negative_whole v w (numeral_decimal w q.0 f) (ltb-true 0 v q.1) m)

negative_of-decimal : (m : ℕ) → m ≤ 9223372036854775807 → negative_of (decimal (suc m)) ≡ Some (negsuc m)
negative_of-decimal m h =
    let f : suc m < 2 ^ 64 = omega arith in
    let v = digits_value-decimal own (suc m) f in
    let b : suc m ≤ 9223372036854775808 = omega arith in
    let s : suc m - 1 ≡ m = omega arith in
    rw (decimal_numeral (suc m) f, v, lt-ltb 0 (suc m) (omega arith), le-leb (suc m) 9223372036854775808 b, s) refl

whole_number : (o : Option ℕ) (z : ℤ) → option_map pos o ≡ Some z → (n : ℕ) × (o ≡ Some n) × (pos n ≡ z)
whole_number None z h = cc
whole_number (Some n) z h = (n, refl, cc)

positive_is : (w : List ℕ) (z : ℤ) → option_map pos (number_of w) ≡ Some z → IsWhole w z
positive_is w z h =
    let p = whole_number (number_of w) z h in
    let q = number_is w p.0 p.1 in
    let k : IsWhole w (pos p.0) = (omega (arith, ints), omega (arith, ints, q.0), q.1) in
    subst (IsWhole w) p.2 k

whole_cases : (b : Bool) (c : ℕ) (cs : List ℕ) (z : ℤ) → (b ≡ true → c ≡ 45)
    → cond b (negative_of cs) (option_map pos (number_of (c ∷ cs))) ≡ Some z → IsWhole (c ∷ cs) z
whole_cases true c cs z k h = rw (k refl) (negative_is cs z h)
whole_cases false c cs z k h = positive_is (c ∷ cs) z h

is_minus : (c : ℕ) → (c == 0x2D) ≡ true → c ≡ 45
is_minus c h = grind (arith, nat_tests)

whole_is : (w : List ℕ) (z : ℤ) → whole_of w ≡ Some z → IsWhole w z
whole_is [] z h = cc
whole_is (c ∷ cs) z h = whole_cases (c == 0x2D) c cs z (is_minus c) h

digit_is_no_minus : (c : ℕ) → is_digit c ≡ true → (c == 0x2D) ≡ false
digit_is_no_minus c h = grind (arith, nat_tests)

whole_of-digits : (w : List ℕ) → list_all is_digit w ≡ true → whole_of w ≡ option_map pos (number_of w)
whole_of-digits [] h = refl
whole_of-digits (c ∷ cs) h = rw (digit_is_no_minus c (and_parts (is_digit c) (list_all is_digit cs) h).0) refl

whole_again : (w : List ℕ) (z : ℤ) → IsWhole w z → whole_of w ≡ Some z
whole_again w (pos n) h =
    let f : n < 2 ^ 64 = omega (arith, ints, h.1) in
    ap whole_of h.2 ∙ whole_of-digits (decimal n) (digits_decimal own n f) ∙ ap (option_map pos) (number_of-decimal n f)
whole_again w (negsuc m) h =
    let f : m ≤ 9223372036854775807 = omega (arith, ints, h.0) in
    ap whole_of h.2 ∙ negative_of-decimal m f

-- law: whole numbers are decimals
pub wholes_are_decimals : WholesAreDecimals
wholes_are_decimals w z = (whole_is w z, whole_again w z)
