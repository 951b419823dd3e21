-- The next word of a line is what was written there.
use Rattle.seg_types.specs.Commands as asked
use Rattle.segment_dump.proofs.Common.{◌≡◌, ◌⊎◌, inl, inr, ℕ, ◌+◌, ◌-◌, ◌*◌, ◌/◌, ◌%◌, ◌^◌, ◌<◌, ◌≤◌, ℤ, pos, Bool}
use Rattle.segment_dump.proofs.Common.{true, false, ◌&&◌, ◌||◌, ◌==◌, not, List, [], ◌∷◌, ◌++◌, length, if◌then◌else◌}
use Rattle.segment_dump.proofs.Common.{Option, Some, None, refl, sym, ap, subst, ◌∙◌, arith, append_assoc, drop, take}
use Rattle.segment_dump.proofs.Common.{nat_lt, nat_eq, decimal, codes, flat_map, option_map, Result, Ok, Err}
use Rattle.segment_dump.proofs.Common.{signed_decimal, Refusal, OutOfRange, AllByRecursion, list_all, take-append_seam}
use Rattle.segment_dump.proofs.Common.{and_parts, eqb-true, ltb-true, ltb-false, nat_tests, drop_at, Kind, ScalarKind}
use Rattle.segment_dump.proofs.Common.{is_value, between, digit_text, escape_text, is_bare_name, is_letter}
use Rattle.segment_dump.proofs.Common.{is_name_byte, kind_text, name_text, quoted_text, value_text, IsTokenOf, text}
use Rattle.segment_dump.proofs.Common.{NumbersAreDecimals, TextsAreSpelled, WholesAreDecimals, Token, Bare, Text}
use Rattle.segment_dump.proofs.Common.{is_bare, number_of, next_token}
use Rattle.std.specs.{Prelude.option_and_then, Result.result_ok, List.prefix_len}
use Rattle.seg_types.specs.{declared.kinds.ScalarKind.TheVariants.Bool as BoolKind, Texts.item_text}
use Rattle.segment_dump.specs.Lines.{bare}
use Rattle.segment_lang.specs.{Laws.IsItem, Laws.Spells, Reading.skip_blanks, Reading.value_for}
use Rattle.segment_lang.specs.Lexing.{byte_of_digits, digit_of, is_token, is_blank, is_plain, literal_of_token}
use Rattle.segment_lang.specs.Lexing.{whole_of}
use Rattle.segment_lang.specs.Tokens.{bare_at, behind_token, ends_token, text_at, up_to_blank, token_at}
use Rattle.segment_dump.proofs.texts.LineTokens.{decimal-some, AreBare, IsWhole, bool-near, decimal-bare, in-range}
use Rattle.segment_dump.proofs.texts.LineTokens.{value-bare}
use Rattle.segment_dump.proofs.{texts.AllElements.all-tested, texts.KindTokens.kind-bare, texts.KindTokens.kind-long}
use Rattle.segment_dump.proofs.{texts.Options.none-some}

-- ---- a bare word

bare-no_blank : (c : ℕ) → is_bare c ≡ true → is_blank c ≡ false
bare-no_blank c e = grind (arith, nat_tests)

bare-no_quote : (c : ℕ) → is_bare c ≡ true → (c == 0x22) ≡ false
bare-no_quote c e = grind (arith, nat_tests)

abbrev is_inside : ℕ → Bool
is_inside c = not (is_blank c)

ends-here : (a : List ℕ) → ends_token a ≡ true → prefix_len is_inside a ≡ 0
ends-here [] e = refl
ends-here (c ∷ cs) e = ap (λ b. if not b then 1 + prefix_len is_inside cs else 0) e

token-len : (w a : List ℕ) → AreBare w → ends_token a ≡ true → prefix_len is_inside (w ++ a) ≡ length w
token-len [] a h e = ends-here a e
token-len (c ∷ w) a h e =
    let more : prefix_len is_inside (w ++ a) ≡ length w = token-len w a h.1 e in
    let one : prefix_len is_inside ((c ∷ w) ++ a) ≡ 1 + prefix_len is_inside (w ++ a) =
    ap (λ b. if not b then 1 + prefix_len is_inside (w ++ a) else 0) (bare-no_blank c h.0) in
    omega (arith, one, more)

up-to : (w a : List ℕ) → AreBare w → ends_token a ≡ true → up_to_blank (w ++ a) ≡ w
up-to w a h e = ap (λ n. take n (w ++ a)) (token-len w a h e) ∙ take-append_seam w a

all-bare : (w : List ℕ) → AreBare w → list_all is_bare w ≡ true
all-bare [] h = refl
all-bare (c ∷ w) h = ap (λ b. b && list_all is_bare w) h.0 ∙ all-bare w h.1

bare-here : (w a : List ℕ) → AreBare w → ends_token a ≡ true → bare_at (w ++ a) ≡ Some (w, a)
unfolding bare_at
bare-here w a h e =
    let prefix : up_to_blank (w ++ a) ≡ w = up-to w a h e in
    let test : list_all is_bare (up_to_blank (w ++ a)) ≡ true = ap (list_all is_bare) prefix ∙ all-bare w h in
    let behind : behind_token (w ++ a) ≡ a = ap (λ l. drop (length l) (w ++ a)) prefix ∙ drop_at w a (length w) refl in
    ap (λ b. if b then Some (up_to_blank (w ++ a), behind_token (w ++ a)) else None) test
    ∙ (λ i. Some (prefix i, behind i))

pub bare-next : (c : ℕ) (w a : List ℕ) → AreBare (c ∷ w) → ends_token a ≡ true
    → next_token ((c ∷ w) ++ a) ≡ Some (Bare (c ∷ w), a)
unfolding next_token token_at
bare-next c w a h e =
    let skip : skip_blanks ((c ∷ w) ++ a) ≡ (c ∷ w) ++ a =
    ap (λ b. if b then skip_blanks (w ++ a) else c ∷ (w ++ a)) (bare-no_blank c h.0) in
    ap token_at skip ∙ ap (λ b. if b then option_map (λ (bs, rest).
    (Text bs, rest)) (text_at (w ++ a)) else option_map (λ (bs, rest). (Bare bs, rest)) (bare_at (c ∷ (w ++ a))))
    (bare-no_quote c h.0) ∙ ap (option_map (λ (bs, rest). (Bare bs, rest))) (bare-here (c ∷ w) a h e)

-- the next word is the bare word that was written
pub bare-long : (w a : List ℕ) → 0 < length w → AreBare w → ends_token a ≡ true → next_token (w ++ a) ≡ Some (Bare w, a)
bare-long [] a l h e = absurd (omega arith)
bare-long (c ∷ w) a l h e = bare-next c w a h e

-- a blank before a word is skipped
pub blank-next : (bytes : List ℕ) → next_token (0x20 ∷ bytes) ≡ next_token bytes
unfolding next_token
blank-next bytes = refl

-- ---- a text in quotes

digit-small : (d : ℕ) → d < 10 → digit_of (0x30 + d) ≡ Some d
digit-small d h = let e : between 0x30 0x39 (0x30 + d) ≡ true = grind (arith, nat_tests)
    in ap (λ b. if b then Some ((0x30 + d) - 0x30) else if between 0x61 0x66 (0x30 + d) then Some
    ((0x30 + d) - 0x57) else None) e ∙ ap Some (omega arith)

digit-great : (d : ℕ) → 10 ≤ d → d < 16 → digit_of (0x57 + d) ≡ Some d
digit-great d h l =
    let e : between 0x30 0x39 (0x57 + d) ≡ false = grind (arith, nat_tests) in
    let f : between 0x61 0x66 (0x57 + d) ≡ true = grind (arith, nat_tests) in
    ap (λ b. if b then Some ((0x57 + d) - 0x30) else if between 0x61 0x66 (0x57 + d) then Some ((0x57 + d) - 0x57)
    else None) e
    ∙ ap (λ b. if b then Some ((0x57 + d) - 0x57) else None) f ∙ ap Some (omega arith)

quote-or : (c : ℕ) → ((c == 0x22) || (c == 0x5C)) ≡ true → (c ≡ 0x22) ⊎ (c ≡ 0x5C)
quote-or c e = grind (arith, nat_tests)

plain-is_token : (c : ℕ) → ((c == 0x22) || (c == 0x5C)) ≡ false → between 0x20 0x7E c ≡ true → is_plain c ≡ true
plain-is_token c e f = grind (arith, nat_tests)

digit-if : (d : ℕ) (b : Bool) → nat_lt d 10 ≡ b → d < 16 → digit_of (if b then 0x30 + d else 0x57 + d) ≡ Some d
digit-if d true e h = digit-small d (ltb-true d 10 e)
digit-if d false e h = digit-great d (ltb-false d 10 e) h

digit-back : (d : ℕ) → d < 16 → digit_of (digit_text d) ≡ Some d
digit-back d h = digit-if d (nat_lt d 10) refl h

digits-byte : (c : ℕ) → c < 256 → byte_of_digits (digit_text (c / 16)) (digit_text (c % 16)) ≡ Some c
digits-byte c h =
    let high : c / 16 < 16 = omega arith in
    let low : c % 16 < 16 = omega arith in
    let whole : 16 * (c / 16) + c % 16 ≡ c = omega arith in
    ap (λ o. option_and_then (λ x. option_map (λ y. 16 * x + y) (digit_of (digit_text (c % 16)))) o)
    (digit-back (c / 16) high)
    ∙ ap (λ o. option_map (λ y. 16 * (c / 16) + y) o) (digit-back (c % 16) low) ∙ ap Some whole

is_token-item : (c : ℕ) (q p : Bool) → ((c == 0x22) || (c == 0x5C)) ≡ q → between 0x20 0x7E c ≡ p → c < 256
    → IsItem (if q then 0x5C ∷ c ∷ [] else if p then c ∷ [] else escape_text c) c
is_token-item c true p e f l = let either : (c ≡ 0x22) ⊎ (c ≡ 0x5C) = quote-or c e in inr (inl (either, refl))
is_token-item c false true e f l = inl (plain-is_token c e f, refl)
is_token-item c false false e f l = inr (inr (digit_text (c / 16), digit_text (c % 16), digits-byte c l, refl))

pub are-spelled : (bs : List ℕ) → AllByRecursion (λ b. b < 256) bs → Spells (flat_map item_text bs) bs
are-spelled [] h = refl
are-spelled (b ∷ bs) h = (
  item_text b,
  flat_map item_text bs,
  is_token-item b ((b == 0x22) || (b == 0x5C)) (between 0x20 0x7E b) refl refl h.0,
  are-spelled bs h.1,
  refl,
)

-- the next word is the quoted text that was written
pub text-next : TextsAreSpelled → (bs a : List ℕ) → AllByRecursion (λ b. b < 256) bs → ends_token a ≡ true
    → next_token (quoted_text bs ++ a) ≡ Some (Text bs, a)
unfolding next_token token_at
text-next law bs a h e =
    let same : (flat_map item_text bs ++ 0x22 ∷ []) ++ a ≡ flat_map item_text bs ++ 0x22 ∷ a =
    append_assoc (flat_map item_text bs) (0x22 ∷ []) a in
    ap (option_map (λ (bs, rest). (Text bs, rest)))
    ((law ((flat_map item_text bs ++ 0x22 ∷ []) ++ a) bs a).1 (flat_map item_text bs, are-spelled bs h, same, e))

-- ---- numbers

-- a decimal number is read as itself
pub decimal-number : NumbersAreDecimals → (n : ℕ) → n < 2 ^ 64 → number_of (decimal n) ≡ Some n
decimal-number law n h = (law (decimal n) n).1 (h, refl)

-- the next word is the number that was written
pub number-next : (n : ℕ) (a : List ℕ) → ends_token a ≡ true → next_token (decimal n ++ a) ≡ Some (Bare (decimal n), a)
number-next n a e = bare-long (decimal n) a (omega (arith, ap length (decimal-some n).is)) (decimal-bare n) e

-- ---- kinds

-- the next word is the kind that was written
pub kind-next : (k : Kind) (a : List ℕ) → ends_token a ≡ true
    → next_token (kind_text k ++ a) ≡ Some (Bare (kind_text k), a)
kind-next k a e = bare-long (kind_text k) a (kind-long k) (kind-bare k) e

-- ---- values

is_token-same : (w v : List ℕ) → is_token w v ≡ true → w ≡ v
is_token-same [] [] e = refl
is_token-same [] (d ∷ v) e = absurd (cc)
is_token-same (c ∷ w) [] e = absurd (cc)
is_token-same (c ∷ w) (d ∷ v) e =
    let p = and_parts (nat_eq c d) (is_token w v) e in
    let one : c ≡ d = eqb-true c d p.0 in
    let more = is_token-same w v p.1 in
    λ i. one i ∷ more i

-- the decimal of a number differs from each word that is not a number
no-truth : (z : ℤ) (token : List ℕ) (b : Bool) → is_token (signed_decimal z) token ≡ b
    → whole_of (signed_decimal z) ≡ Some z → whole_of token ≡ None → b ≡ false
no-truth z token true e f g = let same : signed_decimal z ≡ token = is_token-same (signed_decimal z) token e in absurd
    (none-some z (sym g ∙ ap whole_of (sym same) ∙ f))
no-truth z token false e f g = refl

whole-literal : WholesAreDecimals → (z : ℤ) → IsWhole z
    → literal_of_token (Bare (signed_decimal z)) ≡ Some (asked.Integer z)
whole-literal law z h =
    let w = signed_decimal z in
    let found : whole_of w ≡ Some z = (law w z).1 (h.0, h.1, refl) in
    let yes : is_token w (codes "true") ≡ false = no-truth z (codes "true") (is_token w (codes "true")) refl
    found refl in
    let no : is_token w (codes "false") ≡ false =
    no-truth z (codes "false") (is_token w (codes "false")) refl found refl in
    ap (λ b. if b then Some (asked.Boolean true) else if is_token w (codes "false") then Some (asked.Boolean false) else
    option_map asked.Integer (whole_of w)) yes
    ∙ ap (λ b. if b then Some (asked.Boolean false) else option_map asked.Integer (whole_of w)) no
    ∙ ap (option_map asked.Integer) found

abbrev value_in : ScalarKind → Option asked.Literal → Option ℤ
value_in k o = option_and_then (λ l. result_ok (asked.value_of_literal k l)) o

abbrev in_kind : ScalarKind → ℤ → Result ℤ Refusal
in_kind k z = if is_value k z then Ok z else Err OutOfRange

value-read : WholesAreDecimals → (k : ScalarKind) (z : ℤ) → is_value k z ≡ true
    → asked.value_of_literal k (asked.Integer z) ≡ in_kind k z → value_for k (Bare (signed_decimal z)) ≡ Some z
value-read law k z h e =
    ap (value_in k) (whole-literal law z (in-range k z h)) ∙ ap result_ok e
    ∙ ap (λ b. result_ok (if b then Ok z else Err OutOfRange)) h

truth-read : (z : ℤ) → (z ≡ pos 0) ⊎ (z ≡ pos 1) → value_for BoolKind (Bare (value_text BoolKind z)) ≡ Some z
truth-read z (inl e) = subst (λ y. value_for BoolKind (Bare (value_text BoolKind y)) ≡ Some y) (sym e) refl
truth-read z (inr e) = subst (λ y. value_for BoolKind (Bare (value_text BoolKind y)) ≡ Some y) (sym e) refl

-- a value is read as itself
pub value-said : WholesAreDecimals → (k : ScalarKind) (z : ℤ) → is_value k z ≡ true
    → value_for k (Bare (value_text k z)) ≡ Some z
value-said law BoolKind z h = truth-read z (bool-near z h)
value-said law k z h = value-read law k z h refl

-- the next word is the value that was written
pub value-next : (k : ScalarKind) (z : ℤ) (a : List ℕ) → ends_token a ≡ true
    → next_token (value_text k z ++ a) ≡ Some (Bare (value_text k z), a)
value-next k z a e = let p = value-bare k z in bare-long (value_text k z) a p.1 p.0 e

-- ---- names

pub record NamesToken (name bytes a : List ℕ) : Type 0 where
  pub token : Token
  pub is : next_token bytes ≡ Some (token, a)
  pub of : IsTokenOf name token

name-byte-bare : (c : ℕ) → is_name_byte c ≡ true → is_bare c ≡ true
name-byte-bare c e = grind (arith, nat_tests)

letter-bare : (c : ℕ) → (is_letter c || (c == 0x5F)) ≡ true → is_bare c ≡ true
letter-bare c e = grind (arith, nat_tests)

name-by : TextsAreSpelled → (name a : List ℕ) (b : Bool) → is_bare_name name ≡ b → AllByRecursion (λ b. b < 256) name
    → ends_token a ≡ true → NamesToken name ((if b then name else quoted_text name) ++ a) a
name-by law [] a true f h e = absurd (cc)
name-by law (c ∷ cs) a true f h e =
    let p = and_parts (is_letter c || (c == 0x5F)) (list_all is_name_byte cs) f in
    record {
      token = Bare (c ∷ cs);
      is = bare-next c cs a
          (letter-bare c p.0, all-tested is_name_byte (λ c. is_bare c ≡ true) name-byte-bare cs p.1) e;
      of = bare;
    }
name-by law name a false f h e = record { token = Text name; is = text-next law name a h e; of = text }

-- the next word is the name that was written
pub name-next : TextsAreSpelled → (name a : List ℕ) → AllByRecursion (λ b. b < 256) name → ends_token a ≡ true
    → NamesToken name (name_text name ++ a) a
name-next law name a h e = name-by law name a (is_bare_name name) refl h e
