-- Reading a text line by line, and a line word by word: whatever is spelled in front is read.
use Rattle.std.specs.Prelude.{◌≡◌, ◌≤◌, ℕ, List, [], ◌++◌, Option, Some, None, Result, Ok, Err, codes, length}
use Rattle.std.specs.Prelude.{option_map, OnOk, ◌∷◌}
use Rattle.std.specs.Borrow.{Bor}
use Rattle.seg_types.specs.{declared.kinds.ScalarKind.ScalarKind, Values.scalar_of}
use Rattle.seg_types.specs.declared.values.ScalarValue.{ScalarValue}
use Rattle.segment_lang.specs.{Reading.number, Reading.value_for, Seen.token_of, Tokens.next_token}
use Rattle.segment_lang.specs.Lexing.{Bare, Text, Token}
use Rattle.segment_lang.specs.declared.tokens.Token.{Token as Held}
use Rattle.segment_dump.specs.Reads.{HasNoEnd, ended}

-- no line of a dump is longer
abbrev pub IsShortLine : List ℕ → Type 0
IsShortLine line = length line ≤ 4096

-- a leading line is read, and the rest after its end is left
pub record ReadsLine {E : Type 0} (text rest : List ℕ) (result : Result (List ℕ) E) : Type 0 where
  pub reads : (line a : List ℕ) → HasNoEnd line → IsShortLine line → text ≡ ended line ++ a
      → (result ≡ Ok line) × (rest ≡ a)

-- the value of the next word is read, and the rest after the word is left
pub record ReadsToken {X E : Type 0} (value : Token → Option X) (text rest : List ℕ) (result : Result X E) : Type
    0 where
  pub reads : (w : Token) (a : List ℕ) (x : X) → next_token text ≡ Some (w, a) → value w ≡ Some x
      → (result ≡ Ok x) × (rest ≡ a)

-- ---- values of words

-- a word as itself
abbrev pub any_token : Token → Option Token
any_token w = Some w

-- a word as a bare word
abbrev pub bare_token : Token → Option (List ℕ)
bare_token (Bare bytes) = Some bytes
bare_token (Text bytes) = None

-- a word as a text
abbrev pub quoted_token : Token → Option (List ℕ)
quoted_token (Bare bytes) = None
quoted_token (Text bytes) = Some bytes

-- the value of a kind that a word is
abbrev pub value_token : ScalarKind → Token → Option ScalarValue
value_token kind w = option_map (scalar_of kind) (value_for kind w)

-- a word, and bytes, as the code has them
abbrev pub seen_token : {E : Type 0} → Result Held E → Result Token E
seen_token (Ok w) = Ok (token_of w)
seen_token (Err e) = Err e

-- the bytes of a word of the code
abbrev pub seen_bytes : {E : Type 0} → Result (Bor (List ℕ)) E → Result (List ℕ) E
seen_bytes (Ok bytes) = Ok bytes.now
seen_bytes (Err e) = Err e

-- the reader finds this word next
pub record ReadsThis {E : Type 0} (token text rest : List ℕ) (result : Result (Unit {0}) E) : Type 0 where
  pub reads : (a : List ℕ) → next_token text ≡ Some (Bare token, a) → (result ≡ Ok tt) × (rest ≡ a)

-- the reader succeeds exactly if nothing is left
pub record ReadsEnd {E : Type 0} (text : List ℕ) (result : Result (Unit {0}) E) : Type 0 where
  pub reads : text ≡ [] → result ≡ Ok tt
  pub exact : OnOk result (text ≡ [])

-- ---- the first three lines of a dump

-- the line has these tokens, and no more
abbrev pub HasTokens : List ℕ → List Token → Type 0
HasTokens line [] = line ≡ []
HasTokens line (w ∷ ws) = (behind : List ℕ) × (next_token line ≡ Some (w, behind)) × HasTokens behind ws

-- the first line of the text has these tokens, and the rest stands behind it
pub record BeginsWithLine (tokens : List Token) (text rest : List ℕ) : Type 0 where
  pub line : List ℕ
  pub is : text ≡ ended line ++ rest
  pub has : HasTokens line tokens

-- the first line has the three tokens of the version
abbrev pub BeginsWithVersion : List ℕ → List ℕ → Type 0
BeginsWithVersion = BeginsWithLine (Bare (codes "segment") ∷ Bare (codes "dump") ∷ Bare (codes "1") ∷ [])

-- the next token stands for this number
pub record BeginsWithNumber (n : ℕ) (text rest : List ℕ) : Type 0 where
  pub token : Token
  pub is : number token ≡ Some n
  pub read : next_token text ≡ Some (token, rest)

-- the first line says this size
pub record BeginsWithSize (size : ℕ) (text rest : List ℕ) : Type 0 where
  pub token : Token
  pub is : number token ≡ Some size
  pub has : BeginsWithLine (Bare (codes "size") ∷ token ∷ []) text rest

-- the first line says these numbers of entries
pub record BeginsWithEntries (named unique : ℕ) (text rest : List ℕ) : Type 0 where
  pub first : Token
  pub first_is : number first ≡ Some named
  pub second : Token
  pub second_is : number second ≡ Some unique
  pub has : BeginsWithLine (Bare (codes "indexes") ∷ first ∷ second ∷ []) text rest

-- the first three lines say the version, a size, and two numbers of entries
pub record BeginsWithPrefix (text : List ℕ) : Type 0 where
  pub sized : List ℕ
  pub version : BeginsWithVersion text sized
  pub size : ℕ
  pub indexed : List ℕ
  pub size_is : BeginsWithSize size sized indexed
  pub named : ℕ
  pub unique : ℕ
  pub rest : List ℕ
  pub entries : BeginsWithEntries named unique indexed rest

-- a word that stands for the bytes
pub data IsTokenOf (bytes : List ℕ) : Token → Type 0 where
  bare : IsTokenOf bytes (Bare bytes)
  text : IsTokenOf bytes (Text bytes)
