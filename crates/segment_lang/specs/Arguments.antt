-- The arguments of a command, read word by word.
use Rattle.std.specs.Prelude.{ℕ, ℤ, Option, Some, None, List, [], ◌∷◌, length, map, ◌==◌, option_and_then}
use Rattle.std.specs.Prelude.{unwrap_or, if◌then◌else◌}
use Rattle.raw_region.specs.Format.{current}
use Rattle.seg_types.specs.declared.kinds.Kind.{Kind}
use Rattle.seg_types.specs.declared.kinds.Kind.TheVariants.{Scalar}
use Rattle.seg_types.specs.declared.kinds.ScalarKind.{ScalarKind}
use Rattle.seg_types.specs.declared.values.ScalarValue.{ScalarValue}
use Rattle.seg_types.specs.Names.{Key}
use Rattle.seg_types.specs.Values.{scalar_of}
use Rattle.seg_types.specs.Commands.{Assign, Command, Content, Literal}
use Rattle.segment_lang.specs.Lexing.{Token, Bare, literal_of_token, number_of, tokens}
use Rattle.segment_lang.specs.Language.{Language, whole_language}
use Rattle.segment_lang.specs.Reading.{Reader, all, content, counted_kind, for_kind, key_of, new_key, items, quoted_of}
use Rattle.segment_lang.specs.Reading.{value_for}
use Rattle.segment_lang.specs.Tokens.{◌>>=◌, next_two, next_token, only_token, two_tokens, three_tokens}

-- the kind of the elements, if they are scalars
abbrev pub scalar_kind_of : Kind → Option ScalarKind
scalar_kind_of (Scalar k) = Some k
scalar_kind_of k = None

-- `#` and a handle
abbrev pub handle_of : Token → Option ℕ
handle_of (Bare (c ∷ cs)) = if c == 0x23 then number_of cs else None
handle_of w = None

-- what one word asks for, what two do, and what three do
abbrev pub command_of_one : Reader → List ℕ → Option Command
command_of_one g bytes = option_and_then (λ x. g (whole_language current) (x ∷ [])) (only_token bytes)

-- what two words ask for
abbrev pub command_of_two : Reader → List ℕ → Option Command
command_of_two g bytes = option_and_then (λ x. g (whole_language current) (x.0 ∷ x.1 ∷ [])) (two_tokens bytes)

-- what three words ask for
abbrev pub command_of_three : Reader → List ℕ → Option Command
command_of_three g bytes = option_and_then (λ x. g (whole_language current) (x.0 ∷ x.1 ∷ x.2 ∷ [])) (three_tokens bytes)

-- what scalars are made with: one value
unfoldable pub scalar_at : ScalarKind → ℕ → List ℕ → Option Content
scalar_at k n bytes = option_and_then (λ x. content (Scalar k) n (x ∷ [])) (only_token bytes)

-- a kind, a key, and the initial contents of an object
unfoldable pub making_at : (Key → Content → Command) → (Language → Token → Option Key) → List ℕ → Option Command
making_at make key_in bytes = do
  x ← next_two bytes
  k ← counted_kind (whole_language current) x.0
  key ← for_kind k.0 (key_in (whole_language current) x.1)
  made_with ← option_and_then (content k.0 k.1) (tokens x.2)
  Some (make key made_with)

-- the numbers of a kind that all words are
unfoldable pub numbers_at : ScalarKind → List ℕ → Option (List ℤ)
numbers_at k bytes = option_and_then (all (value_for k)) (tokens bytes)

-- values of one kind
pub record TypedNumbers : Type 0 where
  pub kind : ScalarKind
  pub numbers : List ℤ

-- the values of a kind that the words are, which is none if a word is no such value
abbrev pub values_in : ScalarKind → List ℕ → TypedNumbers
values_in k bytes = record { kind = k; numbers = unwrap_or (numbers_at k bytes) [] }

-- numbers of a kind
abbrev pub typed_numbers : ScalarKind → List ℤ → TypedNumbers
typed_numbers k zs = record { kind = k; numbers = zs }

-- the values of a kind that all words are, if they are as many
abbrev pub counted_values : ScalarKind → ℕ → List ℕ → Option TypedNumbers
counted_values k n bytes =
    option_and_then (λ zs. if length zs == n then Some (typed_numbers k zs) else None) (numbers_at k bytes)

-- the values, each with its kind
abbrev pub scalars_in : TypedNumbers → List ScalarValue
scalars_in w = map (scalar_of w.kind) w.numbers

-- a scalar kind and a count, a key, and this many values
unfoldable pub making_each_at : List ℕ → Option Command
making_each_at bytes = do
  x ← next_two bytes
  k ← counted_kind (whole_language current) x.0
  key ← for_kind k.0 (new_key (whole_language current) x.1)
  kind ← scalar_kind_of k.0
  numbers ← numbers_at kind x.2
  items k.1 kind key numbers

-- the values, of any form, that all words are
unfoldable pub literals_at : List ℕ → Option (List Literal)
literals_at bytes = option_and_then (all literal_of_token) (tokens bytes)

-- the values that the words are, which is none if a word is no value
abbrev pub literals_in : List ℕ → List Literal
literals_in bytes = unwrap_or (literals_at bytes) []

-- a key, and any number of values
unfoldable pub assigning_at : List ℕ → Option Command
assigning_at bytes = do
  x ← next_token bytes
  key ← key_of (whole_language current) x.0
  values ← literals_at x.1
  Some (Assign key values)

-- the texts that all words are
unfoldable pub texts_at : List ℕ → Option (List (List ℕ))
texts_at bytes = option_and_then (all quoted_of) (tokens bytes)

-- the texts that the words are, which is none if a word is no text
abbrev pub texts_in : List ℕ → List (List ℕ)
texts_in bytes = unwrap_or (texts_at bytes) []

-- the texts as they are
abbrev pub texts_held : List (List ℕ) → List (List ℕ)
texts_held ts = ts
