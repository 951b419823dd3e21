-- Names whose bytes are printable, and bare ones.
use Rattle.std.proofs.Common.{◌≡◌, ◌<◌, ◌≤◌, ℕ, Bool, true, false, ◌&&◌, ◌||◌, ◌==◌, List, [], ◌∷◌, length, nat_le}
use Rattle.std.proofs.Common.{arith, ap, sym, ◌∙◌, refl}
use Rattle.std.specs.Str.{IsAscii, IsUtf8, chars, is_utf8}
use Rattle.std.specs.List.{list_all}
use Rattle.std.specs.Prelude.{not}
use Rattle.std.proofs.lemmas.Bool.{and_from, and_parts}
use Rattle.std.proofs.lemmas.Bool.Decides.{nat_tests}
use Rattle.std.proofs.lemmas.Str.{IsUtf8-from_ascii, chars-IsAscii, is_utf8-from_IsUtf8}
use Rattle.std.proofs.lemmas.Str.Ascii.{IsAscii-cons, IsAscii-nil}
use Rattle.seg_types.specs.Names.{is_control, is_text_name}
use Rattle.seg_types.specs.Texts.{is_bare_name, is_letter, is_name_byte}

last_of : (a b c d : Bool) → a ≡ true → b ≡ true → c ≡ true → d ≡ (a && b && c && d)
last_of a b c d p q r = rw (p, q, r)

-- of 1 to 255 bytes of UTF-8, those without control characters are names
pub text_name : (name : List ℕ) → 0 < length name → length name ≤ 255 → IsUtf8 name
    → list_all (λ c. not (is_control c)) (chars name) ≡ is_text_name name
unfolding is_text_name
text_name name some short text =
    last_of (nat_le 1 (length name)) (nat_le (length name) 255) (is_utf8 name)
    (list_all (λ c. not (is_control c)) (chars name)) (grind arith) (grind arith) (is_utf8-from_IsUtf8 name text)

abbrev printable : ℕ → Bool
printable c = nat_le 0x20 c && nat_le c 0x7E

printable-ascii : (name : List ℕ) → list_all printable name ≡ true → IsAscii name
printable-ascii [] h = IsAscii-nil
printable-ascii (c ∷ cs) h = let p = and_parts (printable c) (list_all printable cs) h in
    IsAscii-cons c cs (grind (arith, nat_tests, p.0)) (printable-ascii cs p.1)

-- a weaker test of each
all_weaker : (p q : ℕ → Bool) → ((c : ℕ) → p c ≡ true → q c ≡ true) → (cs : List ℕ) → list_all p cs ≡ true
    → list_all q cs ≡ true
all_weaker p q f [] h = refl
all_weaker p q f (c ∷ cs) h = let two = and_parts (p c) (list_all p cs) h in
    and_from (q c) (list_all q cs) (f c two.0) (all_weaker p q f cs two.1)

no_control : (c : ℕ) → printable c ≡ true → not (is_control c) ≡ true
no_control c h = grind (arith, nat_tests)

-- bytes from 0x20 to 0x7E are characters, and none of them is a control character
pub printable_name : (name : List ℕ) → 0 < length name → length name ≤ 255
    → list_all printable name ≡ true → true ≡ is_text_name name
printable_name name some short h =
    let ascii = printable-ascii name h in
    sym (ap (list_all (λ c. not (is_control c))) (chars-IsAscii name ascii) ∙ all_weaker printable
    (λ c. not (is_control c)) no_control name h)
    ∙ text_name name some short (IsUtf8-from_ascii name ascii)

byte-printable : (c : ℕ) → is_name_byte c ≡ true → printable c ≡ true
byte-printable c h = grind (arith, nat_tests)

first-printable : (c : ℕ) → (is_letter c || (c == 0x5F)) ≡ true → printable c ≡ true
first-printable c h = grind (arith, nat_tests)

pub bare_is_text : (name : List ℕ) → length name ≤ 255 → is_bare_name name ≡ true → is_text_name name ≡ true
bare_is_text [] short h = cc
bare_is_text (c ∷ cs) short h =
    let p = and_parts (is_letter c || (c == 0x5F)) (list_all is_name_byte cs) h in
    sym (printable_name (c ∷ cs) (omega arith) short (and_from (printable c) (list_all printable cs)
    (first-printable c p.0) (all_weaker is_name_byte printable byte-printable cs p.1)))

-- a longer name is no name
pub long_is_no_text : (name : List ℕ) → 255 < length name → is_text_name name ≡ false
unfolding is_text_name
long_is_no_text name long = grind (arith, nat_tests)
