-- What stands after a command word, read one word after another.
use Rattle.std.proofs.Common.{◌≡◌, ℕ, ℤ, Bool, true, false, cond, List, [], ◌∷◌, Option, Some, None, ap, sym, refl, ◌∙◌}
use Rattle.std.proofs.Common.{◌==◌, replicate, length, nat_lt, slice_index}
use Rattle.std.specs.Option.{option_map, option_and_then}
use Rattle.std.specs.Prelude.{is_some}
use Rattle.raw_region.specs.Format.{current}
use Rattle.seg_types.specs.declared.kinds.Kind.{Kind}
use Rattle.seg_types.specs.declared.kinds.Kind.TheVariants.{Scalar, String, Vector, Map, Strings}
use Rattle.seg_types.specs.declared.kinds.ScalarKind.{ScalarKind}
use Rattle.seg_types.specs.declared.values.ScalarValue.{ScalarValue}
use Rattle.seg_types.specs.Names.{Key}
use Rattle.seg_types.specs.Kinds.{is_value}
use Rattle.seg_types.specs.Values.{kind_of_scalar, scalar_of, value_of_scalar}
use Rattle.seg_types.proofs.Laws.{scalar_of-kind, scalar_of-value}
use Rattle.seg_types.specs.Commands.{Assign, Bytes, Command, ConstructIt, Content, Elements, Literal}
use Rattle.seg_types.specs.Commands.{LineTooLong}
use Rattle.seg_types.specs.Commands.{NoPairs, Nothing, Numbers, Reading, Strings, UnknownCommand, DestroyPtr}
use Rattle.segment_lang.specs.Lexing as said
use Rattle.segment_lang.specs.Lexing.{Token, Bare, literal_of_token, number_of, tokens}
use Rattle.segment_lang.specs.Language.{Language, whole_language}
use Rattle.segment_lang.specs.Reading.{Form, Reader, all, alone, appending, as_reading, assigning, command_line}
use Rattle.segment_lang.specs.Reading.{content, counted_kind, destroying_ptr, each, finding, for_kind, form_of, items}
use Rattle.segment_lang.specs.Reading.{key_of, making, making_each, new_key, putting, quoted_of, reading, skip_blanks}
use Rattle.segment_lang.specs.Reading.{without_return, value_for, with_key, with_key_literal, with_key_number}
use Rattle.segment_lang.specs.Reading.{with_key_number_literal, with_number}
use Rattle.segment_lang.specs.Tokens.{at_end, behind_token, next_two, next_token, only_token}
use Rattle.segment_lang.specs.Tokens.{up_to_blank}
use Rattle.segment_lang.specs.Arguments.{TypedNumbers, assigning_at, counted_values, handle_of, literals_at, making_at}
use Rattle.segment_lang.specs.Arguments.{making_each_at, numbers_at, command_of_one, command_of_two, command_of_three}
use Rattle.segment_lang.specs.Arguments.{scalar_at, scalar_kind_of, texts_at, typed_numbers}
use Rattle.segment_lang.proofs.tokens.AllTokens.{take_end, take_only, take_token}
use Rattle.segment_lang.proofs.values.Arrays.{token-value}
use Rattle.segment_lang.proofs.tokens.Readers.{map_then, swap, take_next_two, take_three, take_two, then_some}
use Rattle.segment_lang.proofs.tokens.Readers.{then_then, under}
use Rattle.segment_lang.proofs.tokens.FirstTokens.{command_has_byte, command_is_plain}
use Rattle.segment_lang.specs.Seen.{is_wrong, with_rest}

-- what words ask for
abbrev pub asks : Reader → List ℕ → Option Command
asks reader bytes = option_and_then (reader (whole_language current)) (tokens bytes)

-- ---- nothing, one word, two, three

-- a command alone is read at the end of the line
pub alone_at_end : (c : Command) (bytes : List ℕ) → asks (alone c) bytes ≡ cond (at_end bytes) (Some c) None
alone_at_end c bytes = take_end (alone c (whole_language current)) (λ w ws. refl) bytes

-- a command with a key is read of one word
pub of_key : (f : Key → Command) (key_in : Language → Token → Option Key) (bytes : List ℕ)
    → asks (with_key f key_in) bytes ≡ command_of_one (with_key f key_in) bytes
of_key f key_in bytes = take_only (with_key f key_in (whole_language current)) refl (λ w v ws. refl) bytes

-- a command with a number is read of one word
pub of_number : (f : ℕ → Command) (bytes : List ℕ) → asks (with_number f) bytes ≡ command_of_one (with_number f) bytes
of_number f bytes = take_only (with_number f (whole_language current)) refl (λ w v ws. refl) bytes

-- a command with a key and a number is read of two words
pub of_key_number : (f : Key → ℕ → Command) (bytes : List ℕ)
    → asks (with_key_number f) bytes ≡ command_of_two (with_key_number f) bytes
of_key_number f bytes = take_two (with_key_number f (whole_language current)) refl (λ w. refl) (λ w v u ws. refl) bytes

-- a command with a key and a literal is read of two words
pub of_key_literal : (f : Key → Literal → Command) (bytes : List ℕ)
    → asks (with_key_literal f) bytes ≡ command_of_two (with_key_literal f) bytes
of_key_literal f bytes = take_two (with_key_literal f (whole_language current)) refl (λ w. refl) (λ w v u ws.
    refl) bytes

no_appending : (w v u : Token) (ws : List Token) → appending (whole_language current) (w ∷ v ∷ u ∷ ws) ≡ None
no_appending w (said.Text bs) u ws = refl
no_appending w (Bare bs) u ws = refl

-- `append` is read of two words
pub of_appending : (bytes : List ℕ) → asks appending bytes ≡ command_of_two appending bytes
of_appending bytes = take_two (appending (whole_language current)) refl (λ w. refl) no_appending bytes

-- `assign` is read of a key and the literals after it
pub of_assigning : (bytes : List ℕ) → asks assigning bytes ≡ assigning_at bytes
unfolding assigning_at literals_at
of_assigning bytes =
    take_token (assigning (whole_language current)) refl bytes
    ∙ under _ _ (λ x.
    swap (λ ws key. option_map (Assign key) (all literal_of_token ws)) (tokens x.1) (key_of (whole_language
    current) x.0)
    ∙ under _ _ (λ key. then_some (Assign key) (all literal_of_token) (tokens x.1)) (key_of (whole_language
    current) x.0))
    (next_token bytes)

-- a search is read of two words
pub of_finding : (bytes : List ℕ) → asks finding bytes ≡ command_of_two finding bytes
of_finding bytes = take_two (finding (whole_language current)) refl (λ w. refl) (λ w v u ws. refl) bytes

-- a command with a key, a number and a literal is read of three words
pub of_key_number_literal : (f : Key → ℕ → Literal → Command) (bytes : List ℕ)
    → asks (with_key_number_literal f) bytes ≡ command_of_three (with_key_number_literal f) bytes
of_key_number_literal f bytes =
    take_three (with_key_number_literal f (whole_language current)) refl (λ w. refl) (λ w v. refl)
    (λ w v u t ws. refl) bytes

-- `put` is read of three words
pub of_putting : (bytes : List ℕ) → asks putting bytes ≡ command_of_three putting bytes
of_putting bytes = take_three (putting (whole_language current)) refl (λ w. refl) (λ w v. refl) (λ w v u t ws.
    refl) bytes

-- ---- a handle

no_ptr : (w v : Token) (ws : List Token) → destroying_ptr (whole_language current) (w ∷ v ∷ ws) ≡ None
no_ptr (said.Text bs) v ws = refl
no_ptr (Bare []) v ws = refl
no_ptr (Bare (c ∷ cs)) v ws = refl

ptr_if : (b : Bool) (n : Option ℕ) → cond b (option_map DestroyPtr n) None ≡ option_map DestroyPtr (cond b n None)
ptr_if true n = refl
ptr_if false n = refl

ptr_token : (w : Token) → destroying_ptr (whole_language current) (w ∷ []) ≡ option_map DestroyPtr (handle_of w)
ptr_token (said.Text bs) = refl
ptr_token (Bare []) = refl
ptr_token (Bare (c ∷ cs)) = ptr_if (c == 0x23) (number_of cs)

-- a command with a handle is read of one word
pub of_handle : (bytes : List ℕ)
    → asks destroying_ptr bytes ≡ option_map DestroyPtr (option_and_then handle_of (only_token bytes))
of_handle bytes =
    take_only (destroying_ptr (whole_language current)) refl no_ptr bytes ∙ under _ _ ptr_token (only_token bytes)
    ∙ map_then DestroyPtr handle_of (only_token bytes)

-- ---- a value

-- the content of an array, read word by word
pub scalar_content : (k : ScalarKind) (n : ℕ) (bytes : List ℕ)
    → option_and_then (content (Scalar k) n) (tokens bytes) ≡ scalar_at k n bytes
unfolding scalar_at
scalar_content k n bytes = take_only (content (Scalar k) n) refl (λ w v ws. refl) bytes

-- the content of a vector, read word by word
pub elements_content : (k : ScalarKind) (n : ℕ) (bytes : List ℕ)
    → option_and_then (content (Vector k) n) (tokens bytes) ≡ option_map (Elements k) (numbers_at k bytes)
unfolding numbers_at
elements_content k n bytes = map_then (Elements k) (all (value_for k)) (tokens bytes)

no_text : (n : ℕ) (w v : Token) (ws : List Token) → content String n (w ∷ v ∷ ws) ≡ None
no_text n (said.Text bs) v ws = refl
no_text n (Bare bs) v ws = refl

one_text : (n : ℕ) (w : Token) → content String n (w ∷ []) ≡ option_map Bytes (quoted_of w)
one_text n (said.Text bs) = refl
one_text n (Bare bs) = refl

-- the content of a string, read of one word
pub text_content : (n : ℕ) (bytes : List ℕ)
    → option_and_then (content String n) (tokens bytes) ≡ option_map Bytes (option_and_then quoted_of (only_token
    bytes))
text_content n bytes =
    take_only (content String n) refl (no_text n) bytes ∙ under _ _ (one_text n) (only_token bytes)
    ∙ map_then Bytes quoted_of (only_token bytes)

-- the content of a vector of strings, read word by word
pub texts_content : (n : ℕ) (bytes : List ℕ)
    → option_and_then (content Strings n) (tokens bytes) ≡ option_map Strings (texts_at bytes)
unfolding texts_at
texts_content n bytes = map_then Strings (all quoted_of) (tokens bytes)

-- the content of a map: nothing
pub no_pairs_content : (k v : ScalarKind) (n : ℕ) (bytes : List ℕ)
    → option_and_then (content (Map k v) n) (tokens bytes) ≡ cond (at_end bytes) (Some (NoPairs k v)) None
no_pairs_content k v n bytes = take_end (content (Map k v) n) (λ w ws. refl) bytes

one_scalar : (k : ScalarKind) (n : ℕ) (o : Option ℤ) (v : ScalarValue) → Some v ≡ option_map (scalar_of k) o
    → ((z : ℤ) → o ≡ Some z → is_value k z ≡ true)
    → Some (Numbers (kind_of_scalar v) (replicate n (value_of_scalar v))) ≡ option_map (λ z. Numbers k (replicate n z))
    o
one_scalar k n None v h f = cc
one_scalar k n (Some z) v h f =
    let e : v ≡ scalar_of k z = cc in
    let kind : kind_of_scalar v ≡ k = ap kind_of_scalar e ∙ scalar_of-kind k z in
    let value : value_of_scalar v ≡ z = ap value_of_scalar e ∙ scalar_of-value k z (f z refl) in
    ap (λ k. Some (Numbers k (replicate n (value_of_scalar v)))) kind ∙ ap (λ z. Some (Numbers k (replicate n z))) value

-- the value that is read is what the scalars are made with
pub scalar_read : (k : ScalarKind) (n : ℕ) (bytes : List ℕ) (w : Token) (v : ScalarValue) → Some w ≡ only_token bytes
    → Some v ≡ option_map (scalar_of k) (value_for k w)
    → Some (Numbers (kind_of_scalar v) (replicate n (value_of_scalar v))) ≡ scalar_at k n bytes
unfolding scalar_at
scalar_read k n bytes w v h e = one_scalar k n (value_for k w) v e (token-value k (literal_of_token w))
    ∙ ap (option_and_then (λ x. content (Scalar k) n (x ∷ []))) h

-- ---- a kind, a key, and what an object is made with

-- a construction is read of its key and its content
pub of_making : (make : Key → Content → Command) (key_in : Language → Token → Option Key) (bytes : List ℕ)
    → asks (making make key_in) bytes ≡ making_at make key_in bytes
unfolding making_at
of_making make key_in bytes =
    take_next_two (making make key_in (whole_language current)) refl (λ w. refl) bytes
    ∙ under _ _ (λ x.
    let key : Kind → Option Key = λ k. for_kind k (key_in (whole_language current) x.1) in
    swap (λ args (k : Kind × ℕ). option_and_then (λ key. option_map (make key) (content k.0 k.1 args)) (key k.0))
    (tokens x.2) (counted_kind (whole_language current) x.0)
    ∙ under _ _ (λ (k : Kind × ℕ).
    swap (λ args key. option_map (make key) (content k.0 k.1 args)) (tokens x.2) (key k.0)
    ∙ under _ _ (λ key. then_some (make key) (content k.0 k.1) (tokens x.2)) (key k.0))
    (counted_kind (whole_language current) x.0)) (next_two bytes)

-- ---- a scalar kind, a key, and as many values

the_values : (vs : List Token) (k : Kind) (n : ℕ) (key : Key)
    → each vs k n key ≡ option_and_then (λ kind. option_and_then (λ zs. items n kind key zs) (all (value_for kind) vs))
    (scalar_kind_of k)
the_values vs (Scalar k) n key = refl
the_values vs k n key = refl

each_given : (args : Option (List Token)) (k : Kind) (n : ℕ) (key : Key)
    → option_and_then (λ vs. each vs k n key) args
    ≡ option_and_then (λ kind. option_and_then (λ zs. items n kind key zs)
    (option_and_then (all (value_for kind)) args)) (scalar_kind_of k)
each_given args k n key =
    under _ _ (λ vs. the_values vs k n key) args
    ∙ swap (λ vs kind. option_and_then (λ zs. items n kind key zs) (all (value_for kind) vs)) args (scalar_kind_of k)
    ∙ under _ _ (λ kind. sym (then_then (λ zs. items n kind key zs) (all (value_for kind)) args)) (scalar_kind_of k)

-- a construction of each value is read of its key and its values
pub of_making_each : (bytes : List ℕ) → asks making_each bytes ≡ making_each_at bytes
unfolding making_each_at numbers_at
of_making_each bytes =
    take_next_two (making_each (whole_language current)) refl (λ w. refl) bytes
    ∙ under _ _ (λ x.
    let key : Kind → Option Key = λ k. for_kind k (new_key (whole_language current) x.1) in
    swap (λ args (k : Kind × ℕ). option_and_then (λ key. each args k.0 k.1 key) (key k.0)) (tokens x.2)
    (counted_kind (whole_language current) x.0)
    ∙ under _ _ (λ (k : Kind × ℕ).
    swap (λ args key. each args k.0 k.1 key) (tokens x.2) (key k.0)
    ∙ under _ _ (λ key. each_given (tokens x.2) k.0 k.1 key) (key k.0))
    (counted_kind (whole_language current) x.0)) (next_two bytes)

if_as_many : (b : Bool) (k : ScalarKind) (n : ℕ) (key : Key) (zs : List ℤ) (w : TypedNumbers)
    → Some w ≡ cond b (Some (typed_numbers k zs)) None
    → Some (ConstructIt key w.kind n w.numbers) ≡ cond b (Some (ConstructIt key k n zs)) None
if_as_many true k n key zs w h = let e : w ≡ typed_numbers k zs = cc in
    ap (λ (w : TypedNumbers). Some (ConstructIt key w.kind n w.numbers)) e
if_as_many false k n key zs w h = cc

as_many : (k : ScalarKind) (n : ℕ) (key : Key) (o : Option (List ℤ)) (w : TypedNumbers)
    → Some w ≡ option_and_then (λ zs. cond (length zs == n) (Some (typed_numbers k zs)) None) o
    → Some (ConstructIt key w.kind n w.numbers) ≡ option_and_then (λ zs. items n k key zs) o
as_many k n key None w h = cc
as_many k n key (Some zs) w h = if_as_many (length zs == n) k n key zs w h

-- what is read of each part is the command
pub each_read : (bytes r : List ℕ) (w v : Token) (kind : Kind) (k : ScalarKind) (n : ℕ) (key : Key) (x : TypedNumbers)
    → Some (w, v, r) ≡ next_two bytes → Some (kind, n) ≡ counted_kind (whole_language current) w
    → Some key ≡ for_kind kind (new_key (whole_language current) v) → kind ≡ Scalar k → Some x ≡ counted_values k n r
    → Some (ConstructIt key x.kind n x.numbers) ≡ making_each_at bytes
unfolding making_each_at
each_read bytes r w v kind k n key x a b d e f =
    rw (← a, ← b, ← d, e) (as_many k n key (numbers_at k r) x f)

-- ---- the command word

abbrev answered : Option Form → List ℕ → Reading
answered form rest = elim form [ None ↦ UnknownCommand | Some f ↦ as_reading (asks f.1 rest) ]

known : (form : Option Form) (reader : Reader) (line rest : List ℕ)
    → Some (reader, rest) ≡ with_rest line (option_map (λ (f : Form). f.1) form)
    → as_reading (asks reader rest) ≡ answered form (behind_token line)
known None reader line rest h = cc
known (Some f) reader line rest h =
    let e : (reader, rest) ≡ (f.1, behind_token line) = cc in
    ap (λ (y : Reader × List ℕ). as_reading (asks y.0 y.1)) e

-- a line that begins with a command word is read by the form of the command
pub known_command : (line rest : List ℕ) (reader : Reader) → (length line == 0) ≡ false
    → Some (reader, rest) ≡ with_rest line (option_map (λ (f : Form). f.1) (form_of (up_to_blank line)))
    → as_reading (asks reader rest) ≡ command_line (whole_language current) line
known_command [] rest reader h k = cc
known_command (c ∷ cs) rest reader h k = known (form_of (up_to_blank (c ∷ cs))) reader (c ∷ cs) rest k

-- a line whose first word is a command word is no comment, and has no blank in front
led_by_command : (line rest : List ℕ) (reader : Reader)
    → Some (reader, rest) ≡ with_rest line (option_map (λ (f : Form). f.1) (form_of (up_to_blank line)))
    → as_reading (asks reader rest) ≡ cond (slice_index line 0 == 0x23) Nothing
    (command_line (whole_language current) (skip_blanks line))
led_by_command line rest reader h =
    let plain = command_is_plain line (reader, rest) h in
    known_command line rest reader (command_has_byte line (reader, rest) h) h
    ∙ ap (command_line (whole_language current)) (sym plain.1)
    ∙ ap (λ b. cond b Nothing (command_line (whole_language current) (skip_blanks line))) (sym plain.0)

-- the command word stands in front of the line
pub command_in_prefix : (line part rest : List ℕ) (reader : Reader) → part ≡ without_return line
    → nat_lt 4096 (length part) ≡ false
    → Some (reader, rest) ≡ with_rest part (option_map (λ (f : Form). f.1) (form_of (up_to_blank part)))
    → as_reading (asks reader rest) ≡ reading (whole_language current) line
unfolding reading
command_in_prefix line part rest reader e short h =
    led_by_command part rest reader h
    ∙ ap (λ b. cond b LineTooLong
    (cond (slice_index part 0 == 0x23) Nothing (command_line (whole_language current) (skip_blanks part)))) (sym short)
    ∙ ap (λ line. cond (nat_lt 4096 (length line)) LineTooLong
    (cond (slice_index line 0 == 0x23) Nothing (command_line (whole_language current) (skip_blanks line)))) e

-- ---- whether a line is a command

-- a command that was read is no error
pub no_error : (o : Option Command) (r : Reading) → true ≡ is_some o → as_reading o ≡ r → is_wrong r ≡ false
no_error None r h e = absurd (cc)
no_error (Some c) r h e = ap is_wrong (sym e)
