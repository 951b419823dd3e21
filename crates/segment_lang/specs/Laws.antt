-- Laws of words and numbers: the values that are read, and their spelling.
use Rattle.std.specs.Prelude.{◌≡◌, ◌<◌, ◌≤◌, ◌+◌, length, ◌^◌, ◌↔◌, ◌⊎◌, ℕ, ℤ, pos, negsuc, ◌≤ℤ◌, true, Some, List, []}
use Rattle.std.specs.Prelude.{◌∷◌, ◌++◌, decimal, take, option_map, option_and_then, if◌then◌else◌}
use Rattle.std.specs.List.{AllByRecursion, Contains}
use Rattle.std.specs.Fmt.{signed_decimal}
use Rattle.seg_types.specs.declared.kinds.Kind.{Kind}
use Rattle.seg_types.specs.Names.{ByName, is_name}
use Rattle.segment_lang.specs.Lexing.{tokens as tokens_of}
use Rattle.segment_lang.specs.Lexing.{Bare, Text, Token, tokens, number_of, whole_of, is_plain, byte_of_digits}
use Rattle.segment_lang.specs.Texts.{kind_text, name_text, quoted_text}
use Rattle.segment_lang.specs.Language.{Language}
use Rattle.segment_lang.specs.Reading.{kind_named, name_key, reading}
use Rattle.segment_lang.specs.Tokens.{at_end, ends_token, next_token, text_at}

-- A word has a number exactly if it is the number's decimal text, and the number is below 2 ^ 64.
abbrev pub NumbersAreDecimals : Type 0
NumbersAreDecimals = (token : List ℕ) (n : ℕ) → (number_of token ≡ Some n) ↔ ((n < 2 ^ 64) × (token ≡ decimal n))

-- A word has a whole number exactly if it is the number's decimal text, and the number is in the range.
abbrev pub WholesAreDecimals : Type 0
WholesAreDecimals =
    (token : List ℕ) (z : ℤ)
    → (whole_of token ≡ Some z) ↔ ((negsuc 9223372036854775807 ≤ℤ z) × (z ≤ℤ pos 18446744073709551615) ×
    (token ≡ signed_decimal z))

-- An item of a text stands for a byte: for itself, after a backslash, or as two digits.
abbrev pub IsItem : List ℕ → ℕ → Type 0
IsItem item b =
    ((is_plain b ≡ true) × (item ≡ b ∷ [])) ⊎
    ((((b ≡ 0x22) ⊎ (b ≡ 0x5C)) × (item ≡ 0x5C ∷ b ∷ [])) ⊎
    ((high : ℕ) × (low : ℕ) × (byte_of_digits high low ≡ Some b) × (item ≡ 0x5C ∷ 0x78 ∷ high ∷ low ∷ [])))

-- Items spell the bytes that they stand for, in order.
abbrev pub Spells : List ℕ → List ℕ → Type 0
Spells items [] = items ≡ []
Spells items (b ∷ bs) = (item : List ℕ) × (more : List ℕ) × IsItem item b × Spells more bs × (items ≡ item ++ more)

-- A text is read exactly if items spell it, a quote closes it, and the word ends after the quote.
abbrev pub TextsAreSpelled : Type 0
TextsAreSpelled =
    (bytes bs rest : List ℕ)
    → (text_at bytes ≡ Some (bs, rest)) ↔ ((items : List ℕ) × Spells items bs × (bytes ≡ items ++ 0x22 ∷ rest) ×
    (ends_token rest ≡ true))

-- A text that is printed is read as the bytes that it was printed for.
abbrev pub PrintedTextsAreRead : Type 0
PrintedTextsAreRead = (bs : List ℕ) → AllByRecursion (λ b. b < 256) bs → tokens (quoted_text bs) ≡ Some (Text bs ∷ [])

-- All words of the bytes are none at their end, and otherwise the next word and those after it.
abbrev pub TokensFollow : Type 0
TokensFollow =
    (bytes : List ℕ) → tokens bytes
    ≡ (if at_end bytes then Some [] else option_and_then (λ x. option_map (λ ws. x.0 ∷ ws) (tokens x.1))
    (next_token bytes))

-- the number of words and of their bytes
abbrev pub held_len : List Token → ℕ
held_len [] = 0
held_len (Bare bs ∷ ws) = 1 + length bs + held_len ws
held_len (Text bs ∷ ws) = 1 + length bs + held_len ws

-- Words stand for no more bytes than they are spelled by, one byte after each counted.
abbrev pub TokensFitLine : Type 0
TokensFitLine = (bytes : List ℕ) (ws : List Token) → tokens bytes ≡ Some ws → held_len ws ≤ length bytes + 1

-- Of a line that is too long, the first 4098 bytes say so: the others can be dropped.
abbrev pub LongLinesAreCut : Type 0
LongLinesAreCut = (language : Language) (line : List ℕ) → reading language (take 4098 line) ≡ reading language line

-- A kind of the language that is printed is read as the kind.
abbrev pub PrintedKindsAreRead : Type 0
PrintedKindsAreRead = (l : Language) (k : Kind) → Contains l.kinds k → kind_named l (kind_text k) ≡ Some k

-- the printed text is one word, the key of the name
pub record IsReadAsName (l : Language) (name printed : List ℕ) : Type 0 where
  pub token : Token
  pub tokens : tokens_of printed ≡ Some (token ∷ [])
  pub key : name_key l token ≡ Some (ByName name)

-- A name that is printed is read as the key of the name.
abbrev pub PrintedNamesAreRead : Type 0
PrintedNamesAreRead =
    (l : Language) (name : List ℕ) → AllByRecursion (λ b. b < 256) name → is_name l.format name ≡ true
    → IsReadAsName l name (name_text name)
