-- The meaning of a line: nothing, a command, or one of three errors.
use Rattle.std.specs.Prelude.{ℕ, ◌+◌, ◌-◌, ℤ, Bool, true, not, ◌&&◌, Option, Some, None, List, [], ◌∷◌, length, find}
use Rattle.std.specs.Prelude.{replicate, option_map, option_and_then, ◌==◌, nat_lt, nat_le, if◌then◌else◌, codes}
use Rattle.std.specs.Prelude.{slice_index, take, take_while, drop}
use Rattle.std.specs.Result.{result_ok}
use Rattle.seg_types.specs.declared.kinds.ScalarKind.{ScalarKind}
use Rattle.seg_types.specs.declared.kinds.Kind.{Kind}
use Rattle.seg_types.specs.declared.kinds.Kind.TheVariants.{Scalar, String, Vector, Map, Strings}
use Rattle.seg_types.specs.Kinds.{same_kind}
use Rattle.seg_types.specs.Names.{Key, ByName, ByKind, ByHandle, NoKey, is_name, is_text_name}
use Rattle.seg_types.specs.Commands as asked
use Rattle.seg_types.specs.Commands.{Command, Content, Literal, Reading, Nothing, Asked, UnknownCommand, LineTooLong}
use Rattle.seg_types.specs.Commands.{BadSyntax, value_of_literal}
use Rattle.segment_lang.specs.Lexing as token
use Rattle.segment_lang.specs.Lexing.{Token, Bare, tokens, is_token, is_blank, is_bare_name, number_of}
use Rattle.segment_lang.specs.Lexing.{literal_of_token}
use Rattle.segment_lang.specs.Texts.{kind_text}
use Rattle.segment_lang.specs.Language.{Language}

-- ---- kinds and keys

-- the kind that is printed so
unfoldable pub kind_named : Language → List ℕ → Option Kind
kind_named l w = find (λ k. is_token w (kind_text k)) l.kinds

-- a word as a kind
abbrev pub kind_of_token : Language → Token → Option Kind
kind_of_token l (Bare w) = kind_named l w
kind_of_token l (token.Text bs) = None

-- a kind and a count: a scalar kind can have `[k]` after it
abbrev pub counted : Kind → Option ℕ → Option (Kind × ℕ)
counted (Scalar k) (Some n) = if nat_le 1 n && nat_le n 1048576 then Some (Scalar k, n) else None
counted k n = None

-- the number in brackets
abbrev pub bracketed : List ℕ → Option ℕ
bracketed w = if slice_index w (length w - 1) == 0x5D then number_of (take (length w - 1) w) else None

-- a kind and a count: 1, or the number in brackets
abbrev pub counted_kind : Language → Token → Option (Kind × ℕ)
counted_kind l (token.Text bs) = None
counted_kind l (Bare w) = elim (kind_named l w) [
  | Some k ↦ Some (k, 1)
  | None ↦ let prefix = take_while (λ c. not (c == 0x5B)) w in
      option_and_then (λ k. counted k (bracketed (drop (length prefix + 1) w))) (kind_named l prefix)
]

-- a name or `@KIND`
abbrev pub name_key : Language → Token → Option Key
name_key l (token.Text bs) = if is_name l.format bs then Some (ByName bs) else None
name_key l (Bare []) = None
name_key l (Bare (c ∷ cs)) =
    if c == 0x40 then option_map ByKind (kind_named l cs)
    else if is_bare_name (c ∷ cs) && is_name l.format (c ∷ cs) then Some (ByName (c ∷ cs)) else None

-- a name, `@KIND` or `#n`
abbrev pub key_of : Language → Token → Option Key
key_of l (token.Text bs) = name_key l (token.Text bs)
key_of l (Bare []) = None
key_of l (Bare (c ∷ cs)) = if c == 0x23 then option_map ByHandle (number_of cs) else name_key l (Bare (c ∷ cs))

-- a name, `@KIND` or `-`
abbrev pub new_key : Language → Token → Option Key
new_key l (token.Text bs) = name_key l (token.Text bs)
new_key l (Bare w) = if is_token w (codes "-") then Some NoKey else name_key l (Bare w)

-- if a line has a kind and `@KIND`, they are the same
abbrev pub agrees : Kind → Key → Bool
agrees k (ByKind l) = same_kind k l
agrees k (ByName name) = true
agrees k (ByHandle h) = true
agrees k NoKey = true

-- the key, if it agrees with the kind
abbrev pub for_kind : Kind → Option Key → Option Key
for_kind k key = option_and_then (λ key. if agrees k key then Some key else None) key

-- ---- arguments

abbrev pub all : {A B : Type 0} → (A → Option B) → List A → Option (List B)
all f [] = Some []
all f (x ∷ xs) = option_and_then (λ y. option_map (λ ys. y ∷ ys) (all f xs)) (f x)

-- a word as a value of a kind
abbrev pub value_for : ScalarKind → Token → Option ℤ
value_for k w = option_and_then (λ l. result_ok (value_of_literal k l)) (literal_of_token w)

-- a word as a number
abbrev pub number : Token → Option ℕ
number (Bare w) = number_of w
number (token.Text bs) = None

-- a word as a text
abbrev pub quoted_of : Token → Option (List ℕ)
quoted_of (Bare w) = None
quoted_of (token.Text bs) = Some bs

-- the content that words give an object of a kind
abbrev pub content : Kind → ℕ → List Token → Option Content
content (Scalar k) n (v ∷ []) = option_map (λ z. asked.Numbers k (replicate n z)) (value_for k v)
content (Vector k) n vs = option_map (asked.Elements k) (all (value_for k) vs)
content String n (token.Text bs ∷ []) = Some (asked.Bytes bs)
content (Map k v) n [] = Some (asked.NoPairs k v)
content Strings n ws = option_map asked.Strings (all quoted_of ws)
content k n ws = None

-- reads the words after a command word as a command
abbrev pub Reader : Type 0
Reader = Language → List Token → Option Command

-- KIND[k], a key and arguments
abbrev pub making : (Key → Content → Command) → (Language → Token → Option Key) → Reader
making make key_in l (kw ∷ key ∷ args) =
    option_and_then (λ (k, n). option_and_then (λ key. option_map (make key) (content k n args))
    (for_kind k (key_in l key))) (counted_kind l kw)
making make key_in l ws = None

-- the command with exactly n values
abbrev pub items : ℕ → ScalarKind → Key → List ℤ → Option Command
items n k key zs = if length zs == n then Some (asked.ConstructIt key k n zs) else None

-- values of a scalar kind
abbrev pub each : List Token → Kind → ℕ → Key → Option Command
each vs (Scalar k) n key = option_and_then (items n k key) (all (value_for k) vs)
each vs k n key = None

-- a scalar KIND[k], a key and k values
abbrev pub making_each : Reader
making_each l (kw ∷ key ∷ vs) = option_and_then
    (λ (k, n). option_and_then (λ key. each vs k n key) (for_kind k (new_key l key))) (counted_kind l kw)
making_each l ws = None

-- no word follows
abbrev pub alone : Command → Reader
alone c l [] = Some c
alone c l ws = None

-- a key
abbrev pub with_key : (Key → Command) → (Language → Token → Option Key) → Reader
with_key f key_in l (key ∷ []) = option_map f (key_in l key)
with_key f key_in l ws = None

-- a number
abbrev pub with_number : (ℕ → Command) → Reader
with_number f l (n ∷ []) = option_map f (number n)
with_number f l ws = None

-- a key and a number
abbrev pub with_key_number : (Key → ℕ → Command) → Reader
with_key_number f l (key ∷ n ∷ []) = option_and_then (λ key. option_map (f key) (number n)) (key_of l key)
with_key_number f l ws = None

-- a key and a value
abbrev pub with_key_literal : (Key → Literal → Command) → Reader
with_key_literal f l (key ∷ v ∷ []) = option_and_then (λ key. option_map (f key) (literal_of_token v)) (key_of l key)
with_key_literal f l ws = None

-- a key, a number and a value
abbrev pub with_key_number_literal : (Key → ℕ → Literal → Command) → Reader
with_key_number_literal f l (key ∷ n ∷ v ∷ []) =
    option_and_then (λ key. option_and_then (λ n. option_map (f key n) (literal_of_token v)) (number n)) (key_of l key)
with_key_number_literal f l ws = None

abbrev pub assigning : Reader
assigning l (key ∷ vs) = option_and_then (λ key. option_map (asked.Assign key) (all literal_of_token vs)) (key_of l key)
assigning l ws = None

-- a key and two values
abbrev pub putting : Reader
putting l (key ∷ k ∷ v ∷ []) =
    option_and_then (λ key. option_and_then (λ k. option_map (asked.Put key k) (literal_of_token v))
    (literal_of_token k))
    (key_of l key)
putting l ws = None

-- a key and a text
abbrev pub appending : Reader
appending l (key ∷ token.Text bs ∷ []) = option_map (λ key. asked.Append key bs) (key_of l key)
appending l ws = None

-- a kind and a key
abbrev pub finding : Reader
finding l (kw ∷ key ∷ []) = option_and_then (λ k. option_map (λ key. asked.Find key k) (for_kind k (name_key l key)))
    (kind_of_token l kw)
finding l ws = None

abbrev pub destroying_ptr : Reader
destroying_ptr l (Bare (c ∷ cs) ∷ []) = if c == 0x23 then option_map asked.DestroyPtr (number_of cs) else None
destroying_ptr l ws = None

-- ---- the commands

-- a command word, and the form of its arguments
abbrev pub Form : Type 0
Form = List ℕ × Reader

-- all command words with their forms
abbrev pub forms : List Form
forms =
    (codes "construct", making asked.Construct new_key)
    ∷ (codes "construct_it", making_each)
    ∷ (codes "find", finding)
    ∷ (codes "find_or_construct", making asked.FindOrConstruct name_key)
    ∷ (codes "destroy", with_key asked.Destroy name_key)
    ∷ (codes "destroy_ptr", destroying_ptr)
    ∷ (codes "show", with_key asked.Show key_of)
    ∷ (codes "info", with_key asked.Info key_of)
    ∷ (codes "get", with_key_number asked.Get)
    ∷ (codes "set", with_key_number_literal asked.Set)
    ∷ (codes "push", with_key_literal asked.Push)
    ∷ (codes "pop", with_key asked.Pop key_of)
    ∷ (codes "insert", with_key_number_literal asked.Insert)
    ∷ (codes "erase", with_key_number asked.Erase)
    ∷ (codes "reserve", with_key_number asked.Reserve)
    ∷ (codes "shrink", with_key asked.Shrink key_of)
    ∷ (codes "clear", with_key asked.Clear key_of)
    ∷ (codes "assign", assigning)
    ∷ (codes "append", appending)
    ∷ (codes "put", putting)
    ∷ (codes "lookup", with_key_literal asked.Lookup)
    ∷ (codes "remove", with_key_literal asked.Remove)
    ∷ (codes "list", alone asked.ListNames)
    ∷ (codes "unique", alone asked.ListKinds)
    ∷ (codes "blocks", alone asked.ListBlocks)
    ∷ (codes "size", alone asked.Size)
    ∷ (codes "free", alone asked.Free)
    ∷ (codes "num_named", alone asked.NumNamed)
    ∷ (codes "num_unique", alone asked.NumUnique)
    ∷ (codes "reserve_named", with_number asked.ReserveNamed)
    ∷ (codes "reserve_unique", with_number asked.ReserveUnique)
    ∷ (codes "shrink_indexes", alone asked.ShrinkIndexes)
    ∷ (codes "zero_free", alone asked.ZeroFree)
    ∷ (codes "sanity", alone asked.Sanity)
    ∷ (codes "all_deallocated", alone asked.AllDeallocated)
    ∷ []

-- the form of a command word, if there is such a command
abbrev pub form_of : List ℕ → Option Form
form_of w = find (λ (f : Form). is_token w f.0) forms

abbrev pub as_reading : Option Command → Reading
as_reading None = BadSyntax
as_reading (Some c) = Asked c

-- the first word, up to a blank, decides which form the others must have
abbrev pub reading_of_tokens : Language → List ℕ → List ℕ → Reading
reading_of_tokens l first rest = elim (form_of first) [
  | None ↦ UnknownCommand
  | Some form ↦ as_reading (option_and_then (form.1 l) (tokens rest))
]

-- the line without its blanks in front
abbrev pub skip_blanks : List ℕ → List ℕ
skip_blanks [] = []
skip_blanks (c ∷ cs) = if is_blank c then skip_blanks cs else c ∷ cs

-- a line after its blanks
abbrev pub command_line : Language → List ℕ → Reading
command_line l [] = Nothing
command_line l (c ∷ cs) =
    let first = take_while (λ c. not (is_blank c)) (c ∷ cs) in
    reading_of_tokens l first (drop (length first) (c ∷ cs))

-- one carriage return at the end is dropped
abbrev pub without_return : List ℕ → List ℕ
without_return line = if slice_index line (length line - 1) == 0x0D then take (length line - 1) line else line

-- the one reading of a line: nothing, a command, or error 1, 2 or 3
unfoldable pub reading : Language → List ℕ → Reading
unfolding is_text_name kind_named
reading l line =
    let line = without_return line in
    if nat_lt 4096 (length line) then LineTooLong
    else if slice_index line 0 == 0x23 then Nothing
    else command_line l (skip_blanks line)
