-- The meanings of the types of the code.
use Rattle.std.specs.Prelude.{ℕ, ◌+◌, ◌*◌, ◌%◌, List, [], ◌∷◌, Option, Some, option_and_then, option_map, map, find}
use Rattle.std.specs.Prelude.{◌≤◌, Bool, true, false, length, replicate, ⊤}
use Rattle.raw_region.specs.Format.{current}
use Rattle.seg_types.specs.Commands as asked
use Rattle.seg_types.specs.Keys.{index_key_seen, key_seen, new_key_seen}
use Rattle.seg_types.specs.Values.{kind_of_scalar, value_of_scalar}
use Rattle.segment_lang.specs.Lexing as said
use Rattle.segment_lang.specs.Lexing.{is_token, tokens}
use Rattle.segment_lang.specs.Language.{whole_language}
use Rattle.segment_lang.specs.Tokens.{behind_token}
use Rattle.segment_lang.specs.Reading.{Reader, making, making_each, finding, with_key, with_key_number}
use Rattle.segment_lang.specs.Reading.{with_key_literal, with_key_number_literal, with_number, alone, appending}
use Rattle.segment_lang.specs.Reading.{as_reading, assigning, destroying_ptr, putting, new_key, key_of, name_key}
use Rattle.segment_lang.specs.declared.tokens.Token.{Token}
use Rattle.segment_lang.specs.declared.tokens.Token.TheVariants.{Bare, Text}
use Rattle.segment_lang.specs.declared.literals.Literal.{Literal}
use Rattle.segment_lang.specs.declared.literals.Literal.TheVariants.{Integer, Boolean, Quoted}
use Rattle.segment_lang.specs.declared.commands.Content.{Content}
use Rattle.segment_lang.specs.declared.commands.Content.TheVariants.{Scalars, Elements, String as StringContent}
use Rattle.segment_lang.specs.declared.commands.Content.TheVariants.{Strings as StringsContent, NoPairs}
use Rattle.segment_lang.specs.declared.commands.Operation.{Operation}
use Rattle.segment_lang.specs.declared.commands.Operation.TheVariants.{Construct, ConstructIt, Find, FindOrConstruct}
use Rattle.segment_lang.specs.declared.commands.Operation.TheVariants.{Destroy, DestroyPtr}
use Rattle.segment_lang.specs.declared.commands.Operation.TheVariants.{Show, Info, Set, Insert, Erase, Reserve}
use Rattle.segment_lang.specs.declared.commands.Operation.TheVariants.{Shrink, Clear, Assign, Append, Lookup, Remove}
use Rattle.segment_lang.specs.declared.commands.Operation.TheVariants.{ListNames}
use Rattle.segment_lang.specs.declared.commands.Operation.TheVariants.{ListKinds, Blocks, Free, NumNamed, NumUnique}
use Rattle.segment_lang.specs.declared.commands.Operation.TheVariants.{ReserveNamed, ReserveUnique, ShrinkIndexes}
use Rattle.segment_lang.specs.declared.commands.Operation.TheVariants.{ZeroFree, Sanity, AllDeallocated}
use Rattle.segment_lang.specs.declared.commands.LineStart.{LineStart}
use Rattle.segment_lang.specs.declared.commands.LineStart.TheVariants as lead
use Rattle.segment_lang.specs.declared.commands.Reading.{Reading}
use Rattle.segment_lang.specs.declared.commands.Reading.TheVariants as read
use Rattle.seg_types.specs.declared.refusals.LineError.{LineError}
use Rattle.seg_types.specs.declared.refusals.LineError.TheVariants.{UnknownCommand, LineTooLong, BadSyntax}
use Rattle.segment_lang.specs.declared.forms.CommandForm.{CommandForm}
use Rattle.segment_lang.specs.declared.forms.CommandForm.TheVariants as form
use Rattle.segment_lang.specs.declared.forms.OperationForm.{OperationForm}
use Rattle.segment_lang.specs.declared.forms.OperationForm.TheVariants as operation

-- which word a value of the code stands for
abbrev pub token_of : Token → said.Token
token_of (Bare w) = said.Bare w.now
token_of (Text t) = said.Text t

-- the bytes that a word stands for
abbrev pub bytes_said : Token → List ℕ
bytes_said (Bare w) = w.now
bytes_said (Text t) = t

-- which literal a value of the code stands for
abbrev pub literal_of : Literal → asked.Literal
literal_of (Integer z) = asked.Integer z
literal_of (Boolean b) = asked.Boolean b
literal_of (Quoted t) = asked.Quoted t

-- a text of it has room if a line keeps one
abbrev pub HasLineBuffer : asked.Literal → Type 0
HasLineBuffer (asked.Quoted bs) = length bs ≤ 4096
HasLineBuffer l = ⊤

-- a value as the code has it
abbrev pub literal_held : asked.Literal → Literal
literal_held (asked.Integer z) = Integer z
literal_held (asked.Boolean b) = Boolean b
literal_held (asked.Quoted t) = Quoted t

abbrev pub literals_held : List asked.Literal → List Literal
literals_held ls = map literal_held ls

-- which content a value of the code stands for
abbrev pub content_of : Content → asked.Content
content_of (Scalars s n) = asked.Numbers (kind_of_scalar s) (replicate n (value_of_scalar s))
content_of (Elements values) = asked.Elements values.kind values.numbers
content_of (StringContent t) = asked.Bytes t
content_of (StringsContent ts) = asked.Strings ts
content_of (NoPairs key value) = asked.NoPairs key value

-- which changing command a value of the code stands for
abbrev pub operation_of : Operation → asked.Command
operation_of (Construct key content) = asked.Construct (new_key_seen key) (content_of content)
operation_of (ConstructIt key count values) = asked.ConstructIt (new_key_seen key) values.kind count values.numbers
operation_of (Find kind key) = asked.Find (index_key_seen key) kind
operation_of (FindOrConstruct key content) = asked.FindOrConstruct (index_key_seen key) (content_of content)
operation_of (Destroy key) = asked.Destroy (index_key_seen key)
operation_of (DestroyPtr n) = asked.DestroyPtr n
operation_of (Show key) = asked.Show (key_seen key)
operation_of (Info key) = asked.Info (key_seen key)
operation_of (Set key i value) = asked.Set (key_seen key) i (literal_of value)
operation_of (Insert key i value) = asked.Insert (key_seen key) i (literal_of value)
operation_of (Erase key i) = asked.Erase (key_seen key) i
operation_of (Reserve key n) = asked.Reserve (key_seen key) n
operation_of (Shrink key) = asked.Shrink (key_seen key)
operation_of (Clear key) = asked.Clear (key_seen key)
operation_of (Assign key values) = asked.Assign (key_seen key) values
operation_of (Append key t) = asked.Append (key_seen key) t
operation_of (Lookup key at) = asked.Lookup (key_seen key) (literal_of at)
operation_of (Remove key at) = asked.Remove (key_seen key) (literal_of at)
operation_of ListNames = asked.ListNames
operation_of ListKinds = asked.ListKinds
operation_of Blocks = asked.ListBlocks
operation_of Free = asked.Free
operation_of NumNamed = asked.NumNamed
operation_of NumUnique = asked.NumUnique
operation_of (ReserveNamed n) = asked.ReserveNamed n
operation_of (ReserveUnique n) = asked.ReserveUnique n
operation_of ShrinkIndexes = asked.ShrinkIndexes
operation_of ZeroFree = asked.ZeroFree
operation_of Sanity = asked.Sanity
operation_of AllDeallocated = asked.AllDeallocated

-- a line that is no command
abbrev pub wrong_reading : LineError → asked.Reading
wrong_reading UnknownCommand = asked.UnknownCommand
wrong_reading LineTooLong = asked.LineTooLong
wrong_reading BadSyntax = asked.BadSyntax

-- the reading is an error
abbrev pub is_wrong : asked.Reading → Bool
is_wrong asked.Nothing = false
is_wrong (asked.Asked c) = false
is_wrong r = true

-- the form of an operation's arguments
abbrev pub operation_reader_of : OperationForm → Reader
operation_reader_of operation.Construct = making asked.Construct new_key
operation_reader_of operation.ConstructIt = making_each
operation_reader_of operation.Find = finding
operation_reader_of operation.FindOrConstruct = making asked.FindOrConstruct name_key
operation_reader_of operation.Destroy = with_key asked.Destroy name_key
operation_reader_of operation.DestroyPtr = destroying_ptr
operation_reader_of operation.Show = with_key asked.Show key_of
operation_reader_of operation.Info = with_key asked.Info key_of
operation_reader_of operation.Set = with_key_number_literal asked.Set
operation_reader_of operation.Insert = with_key_number_literal asked.Insert
operation_reader_of operation.Erase = with_key_number asked.Erase
operation_reader_of operation.Reserve = with_key_number asked.Reserve
operation_reader_of operation.Shrink = with_key asked.Shrink key_of
operation_reader_of operation.Clear = with_key asked.Clear key_of
operation_reader_of operation.Assign = assigning
operation_reader_of operation.Append = appending
operation_reader_of operation.Lookup = with_key_literal asked.Lookup
operation_reader_of operation.Remove = with_key_literal asked.Remove
operation_reader_of operation.ListNames = alone asked.ListNames
operation_reader_of operation.ListKinds = alone asked.ListKinds
operation_reader_of operation.Blocks = alone asked.ListBlocks
operation_reader_of operation.Free = alone asked.Free
operation_reader_of operation.NumNamed = alone asked.NumNamed
operation_reader_of operation.NumUnique = alone asked.NumUnique
operation_reader_of operation.ReserveNamed = with_number asked.ReserveNamed
operation_reader_of operation.ReserveUnique = with_number asked.ReserveUnique
operation_reader_of operation.ShrinkIndexes = alone asked.ShrinkIndexes
operation_reader_of operation.ZeroFree = alone asked.ZeroFree
operation_reader_of operation.Sanity = alone asked.Sanity
operation_reader_of operation.AllDeallocated = alone asked.AllDeallocated

-- the form of a command's arguments
abbrev pub reader_of : CommandForm → Reader
reader_of form.Size = alone asked.Size
reader_of form.Get = with_key_number asked.Get
reader_of form.Push = with_key_literal asked.Push
reader_of form.Put = putting
reader_of form.Pop = with_key asked.Pop key_of
reader_of (form.Operation d) = operation_reader_of d

-- the meaning of a command word's form with these arguments
abbrev pub reading_by : CommandForm → List ℕ → asked.Reading
reading_by form rest = as_reading (option_and_then (reader_of form (whole_language current)) (tokens rest))

-- the meaning of a line by its start
abbrev pub reading_led : LineStart → asked.Reading
reading_led lead.Nothing = asked.Nothing
reading_led (lead.Form form rest) = reading_by form rest.now
reading_led (lead.Wrong e) = wrong_reading e

-- the meaning of a line whose arguments have the form of its command word
abbrev pub reading_of : Reading → Option asked.Reading
reading_of read.Nothing = Some asked.Nothing
reading_of (read.Command form rest) =
    option_map asked.Asked (option_and_then (reader_of form (whole_language current)) (tokens rest.now))
reading_of (read.Wrong e) = Some (wrong_reading e)

-- the value of a line's first word, and the rest of the line
abbrev pub with_rest : {A : Type 0} → List ℕ → Option A → Option (A × List ℕ)
with_rest {A} line x = option_map (λ (a : A). (a, behind_token line)) x

-- a word, and its value
abbrev pub KeywordRow : Type 0 → Type 0
KeywordRow A = List ℕ × A

-- the place of a word in the table of command words: its first byte and its third decide
abbrev pub slot_of : List ℕ → ℕ
slot_of [] = 0
slot_of (a ∷ []) = 0
slot_of (a ∷ b ∷ []) = 0
slot_of (a ∷ b ∷ c ∷ w) = (a + 6 * c) % 32

-- the value in the first row with the word
abbrev pub found_in : {A : Type 0} → List (KeywordRow A) → List ℕ → Option A
found_in {A} rows w = option_map (λ (row : KeywordRow A). row.1) (find (λ (row : KeywordRow A). is_token w row.0) rows)
