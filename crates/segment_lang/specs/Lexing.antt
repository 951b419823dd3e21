-- The words of a line, and the numbers, values and names that they spell.
use Rattle.std.specs.Prelude.{ℕ, ◌+◌, ◌-◌, ◌*◌, ℤ, pos, negsuc, Bool, true, false, not, ◌&&◌, ◌||◌, Option, Some, None}
use Rattle.std.specs.Prelude.{List, [], ◌∷◌, option_map, option_and_then, ◌==◌, nat_lt, nat_le, if◌then◌else◌, codes}
use Rattle.std.specs.Prelude.{nat_eq}
use Rattle.std.specs.List.{list_all}
use Rattle.std.specs.Cmp.Lexicographic.{pointwise}
use Rattle.seg_types.specs.Commands.{Literal, Integer, Boolean, Quoted}
pub use Rattle.seg_types.specs.Texts.{between, is_bare_name, is_digit, is_letter}

-- the byte is a space or a tab
abbrev pub is_blank : ℕ → Bool
is_blank c = (c == 0x20) || (c == 0x09)

-- the byte may stand in a bare word
abbrev pub is_bare : ℕ → Bool
is_bare c = between 0x21 0x7E c && not (c == 0x22)

-- stands for itself in a text
abbrev pub is_plain : ℕ → Bool
is_plain c = nat_le 0x20 c && not (c == 0x7F) && not (c == 0x22) && not (c == 0x5C)

-- a bare word, or the bytes that a text in quotes stands for
pub data Token : Type 0 where
  Bare : List ℕ → Token
  Text : List ℕ → Token

-- the value of a digit of 0 to 9, a to f
abbrev pub digit_of : ℕ → Option ℕ
digit_of c = if between 0x30 0x39 c then Some (c - 0x30) else if between 0x61 0x66 c then Some (c - 0x57) else None

abbrev pub byte_of_digits : ℕ → ℕ → Option ℕ
byte_of_digits h l = option_and_then (λ x. option_map (λ y. 16 * x + y) (digit_of l)) (digit_of h)

-- the rest of a word, and the words after it
abbrev pub TokenRest : Type 0
TokenRest = Option (List ℕ × List Token)

-- one byte more in front of the word
abbrev pub more : ℕ → TokenRest → TokenRest
more c rest = option_map (λ (bs, ws). (c ∷ bs, ws)) rest

-- a bare word, by its first byte and its rest
abbrev pub bare_token : ℕ → TokenRest → Option (List Token)
bare_token c rest = option_map (λ (bs, ws). Bare (c ∷ bs) ∷ ws) rest

abbrev pub text_token : TokenRest → Option (List Token)
text_token rest = option_map (λ (bs, ws). Text bs ∷ ws) rest

-- the end of a word, and the words after it
abbrev pub ended : Option (List Token) → TokenRest
ended ws = option_map (λ ws. ([], ws)) ws

-- The words of a line, or nothing if a byte does not fit. The functions stand between words, inside a bare word,
-- inside a text, after it, and inside an escape.
abbrev mutual
  pub tokens : List ℕ → Option (List Token)
  tokens [] = Some []
  tokens (c ∷ cs) =
      if is_blank c then tokens cs
      else if c == 0x22 then text_token (in_text cs) else if is_bare c then bare_token c (in_bare cs) else None

  pub in_bare : List ℕ → TokenRest
  in_bare [] = Some ([], [])
  in_bare (c ∷ cs) = if is_blank c then ended (tokens cs) else if is_bare c then more c (in_bare cs) else None

  pub in_text : List ℕ → TokenRest
  in_text [] = None
  in_text (c ∷ cs) =
      if c == 0x22 then after_text cs
      else if c == 0x5C then escaped cs else if is_plain c then more c (in_text cs) else None

  -- a blank or the end
  pub after_text : List ℕ → TokenRest
  after_text [] = Some ([], [])
  after_text (c ∷ cs) = if is_blank c then ended (tokens cs) else None

  -- after a backslash
  pub escaped : List ℕ → TokenRest
  escaped [] = None
  escaped (c ∷ cs) =
      if (c == 0x22) || (c == 0x5C) then more c (in_text cs) else if c == 0x78 then high_digit cs else None

  pub high_digit : List ℕ → TokenRest
  high_digit [] = None
  high_digit (h ∷ []) = None
  high_digit (h ∷ l ∷ cs) = option_and_then (λ c. more c (in_text cs)) (byte_of_digits h l)

-- ---- numbers

-- the value of digits, behind a number
abbrev pub number_after : ℕ → List ℕ → ℕ
number_after n [] = n
number_after n (d ∷ ds) = number_after (10 * n + (d - 0x30)) ds

-- `0`, or digits without a leading zero
abbrev pub is_numeral : List ℕ → Bool
is_numeral [] = false
is_numeral (d ∷ []) = is_digit d
is_numeral (d ∷ e ∷ ds) = between 0x31 0x39 d && list_all is_digit (e ∷ ds)

-- a decimal number below 2^64
abbrev pub number_of : List ℕ → Option ℕ
number_of w = if is_numeral w && nat_le (number_after 0 w) 18446744073709551615 then Some (number_after 0 w) else None

-- a negative number, by its digits
abbrev pub negative_of : List ℕ → Option ℤ
negative_of w =
    if is_numeral w && nat_lt 0 (number_after 0 w) && nat_le (number_after 0 w) 9223372036854775808
    then Some (negsuc (number_after 0 w - 1)) else None

-- a number, or `-` and a number that is not 0, at least -2^63
abbrev pub whole_of : List ℕ → Option ℤ
whole_of [] = None
whole_of (c ∷ cs) = if c == 0x2D then negative_of cs else option_map pos (number_of (c ∷ cs))

-- the two words are equal
abbrev pub is_token : List ℕ → List ℕ → Bool
is_token = pointwise nat_eq

-- a whole number, `true`, `false` or a text
abbrev pub literal_of_token : Token → Option Literal
literal_of_token (Text bs) = Some (Quoted bs)
literal_of_token (Bare w) =
    if is_token w (codes "true") then Some (Boolean true)
    else if is_token w (codes "false") then Some (Boolean false) else option_map Integer (whole_of w)
