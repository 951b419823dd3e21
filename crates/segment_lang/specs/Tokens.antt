-- The words of a line, read one after another: each reader returns what it read from the front, and the rest.
use Rattle.std.specs.Prelude.{ℕ, Bool, true, not, ◌||◌, Option, Some, None, List, [], ◌∷◌, length, option_map}
use Rattle.std.specs.Prelude.{option_and_then, ◌==◌, if◌then◌else◌, take_while, drop, unwrap_or}
use Rattle.std.specs.List.{list_all}
use Rattle.segment_lang.specs.Lexing.{Token, Bare, Text, is_blank, is_bare, is_plain, byte_of_digits}
use Rattle.segment_lang.specs.Reading.{skip_blanks}

infixl 10 ◌>>=◌
abbrev pub ◌>>=◌ : {A B : Type 0} → Option A → (A → Option B) → Option B
o >>= f = option_and_then f o

-- there are no more words
abbrev pub at_end : List ℕ → Bool
at_end bytes = length (skip_blanks bytes) == 0

-- the bytes up to a blank
abbrev pub up_to_blank : List ℕ → List ℕ
up_to_blank bytes = take_while (λ c. not (is_blank c)) bytes

-- the bytes after the first word
abbrev pub behind_token : List ℕ → List ℕ
behind_token bytes = drop (length (up_to_blank bytes)) bytes

-- no blank parts these bytes
abbrev pub is_unbroken : List ℕ → Bool
is_unbroken bytes = list_all (λ c. not (is_blank c)) bytes

-- a bare word: all bytes up to a blank fit it
unfoldable pub bare_at : List ℕ → Option (List ℕ × List ℕ)
bare_at bytes = if list_all is_bare (up_to_blank bytes) then Some (up_to_blank bytes, behind_token bytes) else None

-- ---- texts

-- two digits
unfoldable pub digits_at : List ℕ → Option (ℕ × List ℕ)
digits_at [] = None
digits_at (h ∷ []) = None
digits_at (h ∷ l ∷ cs) = option_map (λ c. (c, cs)) (byte_of_digits h l)

-- the byte of an escape, after the backslash, and the rest
unfoldable pub escape_at : List ℕ → Option (ℕ × List ℕ)
escape_at [] = None
escape_at (c ∷ cs) = if (c == 0x22) || (c == 0x5C) then Some (c, cs) else if c == 0x78 then digits_at cs else None

-- one byte of a text; a quote is none
unfoldable pub item_at : List ℕ → Option (ℕ × List ℕ)
item_at [] = None
item_at (c ∷ cs) = if c == 0x5C then escape_at cs else if is_plain c then Some (c, cs) else None

-- a word ends at a blank or at the end of the line
abbrev pub ends_token : List ℕ → Bool
ends_token [] = true
ends_token (c ∷ cs) = is_blank c

abbrev pub closed_at : List ℕ → Option (List ℕ × List ℕ)
closed_at cs = if ends_token cs then Some ([], cs) else None

-- the quote that closes a text
abbrev pub quote_at : List ℕ → Option (List ℕ × List ℕ)
quote_at [] = None
quote_at (c ∷ cs) = if c == 0x22 then closed_at cs else None

-- the bytes after the quote that closes a text
abbrev pub behind_quote : List ℕ → Option (List ℕ)
behind_quote [] = None
behind_quote (c ∷ cs) = if c == 0x22 then (if ends_token cs then Some cs else None) else None

-- one byte more in front of a text
abbrev pub longer : ℕ → Option (List ℕ × List ℕ) → Option (List ℕ × List ℕ)
longer c text = option_map (λ (bs, rest). (c ∷ bs, rest)) text

-- A text after the quote that opens it: items up to the quote that closes it.
unfoldable mutual
  pub text_at : List ℕ → Option (List ℕ × List ℕ)
  text_at [] = None
  text_at (c ∷ cs) =
      if c == 0x22 then closed_at cs
      else if c == 0x5C then escaped_at cs else if is_plain c then longer c (text_at cs) else None

  pub escaped_at : List ℕ → Option (List ℕ × List ℕ)
  escaped_at [] = None
  escaped_at (c ∷ cs) =
      if (c == 0x22) || (c == 0x5C) then longer c (text_at cs) else if c == 0x78 then high_digit_at cs else None

  pub high_digit_at : List ℕ → Option (List ℕ × List ℕ)
  high_digit_at [] = None
  high_digit_at (h ∷ []) = None
  high_digit_at (h ∷ l ∷ cs) = option_and_then (λ c. longer c (text_at cs)) (byte_of_digits h l)

-- the bytes of a text
abbrev pub text_in : List ℕ → List ℕ
text_in bytes = (unwrap_or (text_at bytes) ([], [])).0

-- what follows a text
abbrev pub behind_text : List ℕ → Option (List ℕ)
behind_text bytes = option_map (λ x. x.1) (text_at bytes)

-- the bytes after the quote that opens a text
abbrev pub behind_opening : List ℕ → Option (List ℕ)
behind_opening [] = None
behind_opening (c ∷ cs) = if c == 0x22 then Some cs else None

-- the bytes of the text, if an opening quote is in front; otherwise the bytes themselves
abbrev pub spelled_bytes : List ℕ → List ℕ
spelled_bytes bytes = unwrap_or (option_map text_in (behind_opening bytes)) bytes

-- ---- words

-- a word with no blank in front
unfoldable pub token_at : List ℕ → Option (Token × List ℕ)
token_at [] = None
token_at (c ∷ cs) =
    if c == 0x22 then option_map (λ (bs, rest). (Text bs, rest)) (text_at cs)
    else option_map (λ (bs, rest). (Bare bs, rest)) (bare_at (c ∷ cs))

-- the next word, after the blanks in front of it
unfoldable pub next_token : List ℕ → Option (Token × List ℕ)
next_token bytes = token_at (skip_blanks bytes)

-- the only word
unfoldable pub only_token : List ℕ → Option Token
only_token bytes = do
  x ← next_token bytes
  if at_end x.1 then Some x.0 else None

-- the only two words
unfoldable pub two_tokens : List ℕ → Option (Token × Token)
two_tokens bytes = do
  x ← next_token bytes
  y ← only_token x.1
  Some (x.0, y)

-- the only three words
unfoldable pub three_tokens : List ℕ → Option (Token × Token × Token)
three_tokens bytes = do
  x ← next_token bytes
  y ← two_tokens x.1
  Some (x.0, y.0, y.1)

-- the next two words, and the rest
unfoldable pub next_two : List ℕ → Option (Token × Token × List ℕ)
next_two bytes = do
  x ← next_token bytes
  y ← next_token x.1
  Some (x.0, y.0, y.1)
