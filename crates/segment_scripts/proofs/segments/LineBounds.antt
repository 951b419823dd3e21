-- A line asks for no more than there can be: from 1 to 1048576 numbers, or as many elements and bytes as it has, under
-- a key that is for their kind.
use Rattle.std.proofs.Common.{◌≡◌, refl, sym, subst, ℕ, ℤ, ◌+◌, ◌*◌, ◌≤◌, Bool, true, false, ◌&&◌, Option, Some, None}
use Rattle.std.proofs.Common.{Result, List, [], ◌∷◌, length, replicate, arith, if◌then◌else◌, ◌==◌, nat_le, nat_lt}
use Rattle.std.specs.Prelude.{IsTrue, codes, find, option_and_then, option_map, take_while, drop, not, slice_index, ⊤}
use Rattle.std.specs.List.{AllByRecursion}
use Rattle.std.specs.Result.{result_ok}
use Rattle.std.proofs.lemmas.Bool.{and_parts, eqb-true, leb-true, ltb-false}
use Rattle.std.proofs.lemmas.List.{length-drop, length-replicate}
use Rattle.seg_types.specs.declared.kinds.ScalarKind.{ScalarKind}
use Rattle.seg_types.specs.declared.refusals.Refusal.{Refusal}
use Rattle.seg_types.specs.declared.kinds.Kind.{Kind}
use Rattle.seg_types.specs.declared.kinds.Kind.TheVariants.{Scalar, String, Vector, Map, Strings}
use Rattle.seg_types.specs.Names.{Key}
use Rattle.seg_types.specs.Commands as asked
use Rattle.seg_types.specs.Commands.{Command, Content, Literal, Integer, Boolean, Quoted, Reading, Nothing, Asked}
use Rattle.seg_types.specs.Commands.{UnknownCommand, LineTooLong, BadSyntax}
use Rattle.segment_lang.specs.Lexing as token
use Rattle.segment_lang.specs.Lexing.{Token, Bare, tokens, is_token, is_blank, literal_of_token, number_of, whole_of}
use Rattle.raw_region.specs.Format.{current}
use Rattle.segment_lang.specs.Language.{Language, whole_language}
use Rattle.segment_lang.specs.Reading as reads
use Rattle.segment_lang.specs.Reading.{Form, Reader, agrees, all, alone, as_reading, bracketed, command_line, content}
use Rattle.segment_lang.specs.Reading.{counted, counted_kind, each, for_kind, form_of, forms, items, key_of, kind_named}
use Rattle.segment_lang.specs.Reading.{kind_of_token, making, making_each, name_key, new_key, number, quoted_of}
use Rattle.segment_lang.specs.Reading.{reading}
use Rattle.segment_lang.specs.Reading.{skip_blanks, value_for, with_key, with_key_literal, with_key_number}
use Rattle.segment_lang.specs.Reading.{with_key_number_literal, with_number, without_return}
use Rattle.segment_lang.specs.Laws.{held_len}
use Rattle.segment_lang.proofs.Laws.{tokens_room}
use Rattle.segment_scripts.specs.Replies.{IsLineContent, IsMeant, bytes_taken, texts_taken}
use Rattle.segment_scripts.proofs.values.ScalarBuffers.{text-no_value}

-- ---- what there is, if there is something

abbrev Holds : {A : Type 0} → (A → Type 0) → Option A → Type 0
Holds P None = ⊤
Holds P (Some a) = P a

map-holds : {A B : Type 0} (Q : B → Type 0) (f : A → B) (r : Option A) → ((a : A) → Q (f a)) → Holds Q (option_map f r)
map-holds Q f None h = tt
map-holds Q f (Some a) h = h a

then-holds : {A B : Type 0} (P : A → Type 0) (Q : B → Type 0) (f : A → Option B) (r : Option A) → Holds P r
    → ((a : A) → P a → Holds Q (f a)) → Holds Q (option_and_then f r)
then-holds P Q f None p h = tt
then-holds P Q f (Some a) p h = h a p

then-all : {A B : Type 0} (Q : B → Type 0) (f : A → Option B) (r : Option A) → ((a : A) → Holds Q (f a))
    → Holds Q (option_and_then f r)
then-all Q f None h = tt
then-all Q f (Some a) h = h a

map-where : {A B : Type 0} (P : A → Type 0) (Q : B → Type 0) (f : A → B) (r : Option A) → Holds P r
    → ((a : A) → P a → Q (f a)) → Holds Q (option_map f r)
map-where P Q f None p h = tt
map-where P Q f (Some a) p h = h a p

holds-map : {A : Type 0} (P Q : A → Type 0) (r : Option A) → Holds P r → ((a : A) → P a → Q a) → Holds Q r
holds-map P Q None p h = tt
holds-map P Q (Some a) p h = h a p

if-holds : {A : Type 0} (P : A → Type 0) (b : Bool) (a : A) → (b ≡ true → P a) → Holds P (if b then Some a else None)
if-holds P true a h = h refl
if-holds P false a h = tt

-- ---- the room that words take

-- a word takes a byte at the least
held_len-tail : (w : Token) (ws : List Token) → held_len ws + 1 ≤ held_len (w ∷ ws)
held_len-tail (Bare bs) ws = omega arith
held_len-tail (token.Text bs) ws = omega arith

-- two values take four bytes
values-held_len : (k : ScalarKind) (ws : List Token)
    → Holds (λ (zs : List ℤ). 2 * length zs ≤ held_len ws) (all (value_for k) ws)
values-held_len k [] = omega arith
values-held_len k (Bare [] ∷ ws) = tt
values-held_len k (Bare (c ∷ cs) ∷ ws) =
    then-all (λ (zs : List ℤ). 2 * length zs ≤ held_len (Bare (c ∷ cs) ∷ ws)) (λ z.
    option_map (λ zs. z ∷ zs) (all (value_for k) ws)) (value_for k (Bare (c ∷ cs)))
    (λ z. map-where (λ (zs : List ℤ). 2 * length zs ≤ held_len ws) (λ (zs : List ℤ).
    2 * length zs ≤ held_len (Bare (c ∷ cs) ∷ ws)) (λ zs. z ∷ zs) (all (value_for k) ws) (values-held_len k ws)
    (λ zs h. omega arith))
values-held_len k (token.Text bs ∷ ws) =
    subst (λ (r : Result ℤ Refusal).
    Holds (λ (zs : List ℤ). 2 * length zs ≤ held_len (token.Text bs ∷ ws))
    (option_and_then (λ z. option_map (λ zs. z ∷ zs) (all (value_for k) ws)) (result_ok r)))
    (sym (text-no_value k bs)) tt

-- a bare word is no text
abbrev IsBareValue : Literal → Type 0
IsBareValue (Integer z) = ⊤
IsBareValue (Boolean b) = ⊤
IsBareValue (Quoted bs) = ⊥

bare-if : (b c : Bool) (r : Option ℤ)
    → Holds IsBareValue (if b then Some (Boolean true) else if c then Some (Boolean false) else option_map Integer r)
bare-if true c r = tt
bare-if false true r = tt
bare-if false false r = map-holds IsBareValue Integer r (λ z. tt)

bare-taken : (l : Literal) (ls : List Literal) → IsBareValue l → bytes_taken (l ∷ ls) ≡ 2 + bytes_taken ls
bare-taken (Integer z) ls h = refl
bare-taken (Boolean b) ls h = refl
bare-taken (Quoted bs) ls h = absurd h

literals-held_len : (ws : List Token) → Holds (λ ls. bytes_taken ls ≤ held_len ws) (all literal_of_token ws)
literals-held_len [] = omega arith
literals-held_len (Bare [] ∷ ws) = tt
literals-held_len (Bare (c ∷ cs) ∷ ws) =
    then-holds IsBareValue (λ ls. bytes_taken ls ≤ held_len (Bare (c ∷ cs) ∷ ws)) (λ l.
    option_map (λ ls. l ∷ ls) (all literal_of_token ws)) (literal_of_token (Bare (c ∷ cs)))
    (bare-if (is_token (c ∷ cs) (codes "true")) (is_token (c ∷ cs) (codes "false")) (whole_of (c ∷ cs)))
    (λ l b. map-where (λ ls. bytes_taken ls ≤ held_len ws) (λ ls. bytes_taken ls ≤ held_len (Bare (c ∷ cs) ∷ ws)) (λ ls.
    l ∷ ls) (all literal_of_token ws) (literals-held_len ws)
    (λ ls h. let e = bare-taken l ls b in omega arith))
literals-held_len (token.Text bs ∷ ws) =
    map-where (λ ls. bytes_taken ls ≤ held_len ws) (λ ls. bytes_taken ls ≤ held_len (token.Text bs ∷ ws)) (λ ls.
    Quoted bs ∷ ls) (all literal_of_token ws) (literals-held_len ws) (λ ls h. omega arith)

texts-held_len : (ws : List Token) → Holds (λ (bss : List (List ℕ)). texts_taken bss ≤ held_len ws) (all quoted_of ws)
texts-held_len [] = omega arith
texts-held_len (Bare w ∷ ws) = tt
texts-held_len (token.Text bs ∷ ws) =
    map-where (λ (bss : List (List ℕ)). texts_taken bss ≤ held_len ws) (λ (bss : List (List ℕ)).
    texts_taken bss ≤ held_len (token.Text bs ∷ ws)) (λ bss. bs ∷ bss) (all quoted_of ws) (texts-held_len ws) (λ bss h.
    omega arith)

-- one value takes no more than its word
literal-held_len : (w : Token) → Holds (λ l. bytes_taken (l ∷ []) ≤ held_len (w ∷ [])) (literal_of_token w)
literal-held_len (Bare []) = tt
literal-held_len (Bare (c ∷ cs)) =
    holds-map IsBareValue (λ l. bytes_taken (l ∷ []) ≤ held_len (Bare (c ∷ cs) ∷ [])) (literal_of_token (Bare (c ∷ cs)))
    (bare-if (is_token (c ∷ cs) (codes "true")) (is_token (c ∷ cs) (codes "false")) (whole_of (c ∷ cs)))
    (λ l b. let e = bare-taken l [] b in omega arith)
literal-held_len (token.Text bs) = omega arith

-- ---- kinds, keys and contents

abbrev IsCount : ℕ → Type 0
IsCount n = (1 ≤ n) × (n ≤ 1048576)

-- a kind, and this many
abbrev IsCounted : Kind × ℕ → Type 0
IsCounted p = IsCount p.1

abbrev Counts : Option (Kind × ℕ) → Type 0
Counts = Holds IsCounted

counted-holds : (k : Kind) (r : Option ℕ) → Counts (counted k r)
counted-holds (Scalar k) (Some n) =
    if-holds IsCounted (nat_le 1 n && nat_le n 1048576) (Scalar k, n)
    (λ e. let both = and_parts (nat_le 1 n) (nat_le n 1048576) e in (leb-true 1 n both.0, leb-true n 1048576 both.1))
counted-holds (Scalar k) None = tt
counted-holds String r = tt
counted-holds (Vector k) r = tt
counted-holds (Map k v) r = tt
counted-holds Strings r = tt

kind-holds : (l : Language) (w : List ℕ) (r : Option Kind) → Counts (elim r as (λ _. Option (Kind × ℕ)) [
  | Some k ↦ Some (k, 1)
  | None ↦ let prefix = take_while (λ c. not (c == 0x5B)) w in
      option_and_then (λ k. counted k (bracketed (drop (length prefix + 1) w))) (kind_named l prefix)
])
kind-holds l w (Some k) = (omega arith, omega arith)
kind-holds l w None = then-all IsCounted _ (kind_named l (take_while (λ c. not (c == 0x5B)) w)) (λ k. counted-holds k _)

kinds-count : (w : Token) → Counts (counted_kind (whole_language current) w)
kinds-count (Bare w) = kind-holds (whole_language current) w (kind_named (whole_language current) w)
kinds-count (token.Text bs) = tt

key-agrees : (k : Kind) (key : Option Key) → Holds (λ (x : Key). IsTrue (agrees k x)) (for_kind k key)
key-agrees k key = then-all (λ (x : Key). IsTrue (agrees k x)) _ key (λ x.
    if-holds (λ (y : Key). IsTrue (agrees k y)) (agrees k x) x (λ e. e))

content-holds : (k : Kind) (n : ℕ) (ws : List Token) (key : Key) → IsCounted (k, n) → held_len ws ≤ 4097
    → IsTrue (agrees k key) → Holds (IsLineContent key) (content k n ws)
content-holds (Scalar k) n [] key h f a = tt
content-holds (Scalar k) n (v ∷ []) key h f a =
    map-holds (IsLineContent key) (λ z. asked.Numbers k (replicate n z)) (value_for k v)
    (λ z. let e = length-replicate n z in (subst (λ m. 1 ≤ m) (sym e) h.0, subst (λ m. m ≤ 1048576) (sym e) h.1, a))
content-holds (Scalar k) n (v ∷ w ∷ ws) key h f a = tt
content-holds (Vector k) n ws key h f a =
    map-where (λ (zs : List ℤ). 2 * length zs ≤ held_len ws) (IsLineContent key) (asked.Elements k)
    (all (value_for k) ws) (values-held_len k ws) (λ zs r. (omega arith, a))
content-holds String n [] key h f a = tt
content-holds String n (Bare w ∷ ws) key h f a = tt
content-holds String n (token.Text bs ∷ []) key h f a = (omega arith, a)
content-holds String n (token.Text bs ∷ w ∷ ws) key h f a = tt
content-holds (Map k v) n [] key h f a = a
content-holds (Map k v) n (w ∷ ws) key h f a = tt
content-holds Strings n ws key h f a =
    map-where (λ (bss : List (List ℕ)). texts_taken bss ≤ held_len ws) (IsLineContent key) asked.Strings
    (all quoted_of ws) (texts-held_len ws) (λ bss r. (omega arith, a))

-- ---- the forms

abbrev Meant : Reader → Type 0
Meant r = (ws : List Token) → held_len ws ≤ 4097 → Holds IsMeant (r (whole_language current) ws)

alone-meant : (c : Command) → IsMeant c → Meant (alone c)
alone-meant c h [] room_is = h
alone-meant c h (w ∷ ws) room_is = tt

key-meant : (f : Key → Command) (key_in : Language → Token → Option Key) → ((k : Key) → IsMeant (f k))
    → Meant (with_key f key_in)
key-meant f key_in h [] room_is = tt
key-meant f key_in h (w ∷ []) room_is = map-holds IsMeant f (key_in (whole_language current) w) h
key-meant f key_in h (w ∷ v ∷ ws) room_is = tt

number-meant : (f : ℕ → Command) → ((n : ℕ) → IsMeant (f n)) → Meant (with_number f)
number-meant f h [] room_is = tt
number-meant f h (w ∷ []) room_is = map-holds IsMeant f (number w) h
number-meant f h (w ∷ v ∷ ws) room_is = tt

key-number-meant : (f : Key → ℕ → Command) → ((k : Key) (n : ℕ) → IsMeant (f k n)) → Meant (with_key_number f)
key-number-meant f h [] room_is = tt
key-number-meant f h (w ∷ []) room_is = tt
key-number-meant f h (w ∷ v ∷ []) room_is =
    then-all IsMeant (λ key. option_map (f key) (number v)) (key_of (whole_language current) w) (λ k.
    map-holds IsMeant (f k) (number v) (h k))
key-number-meant f h (w ∷ v ∷ u ∷ ws) room_is = tt

key-literal-meant : (f : Key → Literal → Command)
    → ((k : Key) (m : Literal) → bytes_taken (m ∷ []) ≤ 4097 → IsMeant (f k m)) → Meant (with_key_literal f)
key-literal-meant f h [] room_is = tt
key-literal-meant f h (w ∷ []) room_is = tt
key-literal-meant f h (w ∷ v ∷ []) room_is =
    let tail = held_len-tail w (v ∷ []) in
    then-all IsMeant (λ key. option_map (f key) (literal_of_token v)) (key_of (whole_language current) w)
    (λ k. map-where (λ l. bytes_taken (l ∷ []) ≤ held_len (v ∷ [])) IsMeant (f k) (literal_of_token v)
    (literal-held_len v)
    (λ m few. h k m (omega arith)))
key-literal-meant f h (w ∷ v ∷ u ∷ ws) room_is = tt

key-number-literal-meant : (f : Key → ℕ → Literal → Command)
    → ((k : Key) (n : ℕ) (m : Literal) → bytes_taken (m ∷ []) ≤ 4097 → IsMeant (f k n m))
    → Meant (with_key_number_literal f)
key-number-literal-meant f h [] room_is = tt
key-number-literal-meant f h (w ∷ []) room_is = tt
key-number-literal-meant f h (w ∷ v ∷ []) room_is = tt
key-number-literal-meant f h (w ∷ v ∷ u ∷ []) room_is =
    let first = held_len-tail w (v ∷ u ∷ []) in
    let second = held_len-tail v (u ∷ []) in
    then-all IsMeant (λ key. option_and_then (λ n. option_map (f key n) (literal_of_token u)) (number v))
    (key_of (whole_language current) w)
    (λ k. then-all IsMeant (λ n. option_map (f k n) (literal_of_token u)) (number v)
    (λ n. map-where (λ l. bytes_taken (l ∷ []) ≤ held_len (u ∷ [])) IsMeant (f k n) (literal_of_token u)
    (literal-held_len u)
    (λ m few. h k n m (omega arith))))
key-number-literal-meant f h (w ∷ v ∷ u ∷ t ∷ ws) room_is = tt

assigning-meant : Meant reads.assigning
assigning-meant [] room_is = tt
assigning-meant (w ∷ ws) room_is =
    let tail = held_len-tail w ws in
    then-all IsMeant (λ key. option_map (asked.Assign key) (all literal_of_token ws)) (key_of (whole_language
    current) w)
    (λ k. map-where (λ ls. bytes_taken ls ≤ held_len ws) IsMeant (asked.Assign k) (all literal_of_token ws)
    (literals-held_len ws) (λ ls h. omega arith))

putting-meant : Meant reads.putting
putting-meant [] room_is = tt
putting-meant (w ∷ []) room_is = tt
putting-meant (w ∷ v ∷ []) room_is = tt
putting-meant (w ∷ v ∷ u ∷ []) room_is =
    then-all IsMeant (λ key. option_and_then (λ k.
    option_map (asked.Put key k) (literal_of_token u)) (literal_of_token v)) (key_of (whole_language current) w)
    (λ key. then-all IsMeant (λ k. option_map (asked.Put key k) (literal_of_token u)) (literal_of_token v) (λ k.
    map-holds IsMeant (asked.Put key k) (literal_of_token u) (λ m. tt)))
putting-meant (w ∷ v ∷ u ∷ t ∷ ws) room_is = tt

appending-meant : Meant reads.appending
appending-meant [] room_is = tt
appending-meant (w ∷ []) room_is = tt
appending-meant (w ∷ Bare b ∷ ws) room_is = tt
appending-meant (w ∷ token.Text bs ∷ []) room_is =
    let tail = held_len-tail w (token.Text bs ∷ []) in
    map-holds IsMeant (λ key. asked.Append key bs) (key_of (whole_language current) w) (λ k. omega arith)
appending-meant (w ∷ token.Text bs ∷ v ∷ ws) room_is = tt

finding-meant : Meant reads.finding
finding-meant [] room_is = tt
finding-meant (w ∷ []) room_is = tt
finding-meant (w ∷ v ∷ []) room_is =
    then-all IsMeant (λ k. option_map (λ key. asked.Find key k) (for_kind k (name_key (whole_language current) v)))
    (kind_of_token (whole_language current) w)
    (λ k. map-holds IsMeant (λ key. asked.Find key k) (for_kind k (name_key (whole_language current) v)) (λ key. tt))
finding-meant (w ∷ v ∷ u ∷ ws) room_is = tt

handle-if : (b : Bool) (cs : List ℕ) → Holds IsMeant (if b then option_map asked.DestroyPtr (number_of cs) else None)
handle-if true cs = map-holds IsMeant asked.DestroyPtr (number_of cs) (λ n. tt)
handle-if false cs = tt

destroying-meant : Meant reads.destroying_ptr
destroying-meant [] room_is = tt
destroying-meant (Bare [] ∷ ws) room_is = tt
destroying-meant (Bare (c ∷ cs) ∷ []) room_is = handle-if (c == 0x23) cs
destroying-meant (Bare (c ∷ cs) ∷ w ∷ ws) room_is = tt
destroying-meant (token.Text bs ∷ ws) room_is = tt

making-meant : (make : Key → Content → Command) (key_in : Language → Token → Option Key)
    → ((key : Key) (x : Content) → IsLineContent key x → IsMeant (make key x)) → Meant (making make key_in)
making-meant make key_in h [] room_is = tt
making-meant make key_in h (w ∷ []) room_is = tt
making-meant make key_in h (w ∷ v ∷ args) room_is =
    let tail = held_len-tail w (v ∷ args) in
    let fits = held_len-tail v args in
    then-holds IsCounted IsMeant (λ (k, n).
    option_and_then (λ key. option_map (make key) (content k n args)) (for_kind k (key_in (whole_language current) v)))
    (counted_kind (whole_language current) w) (kinds-count w)
    (λ p count. then-holds (λ (x : Key). IsTrue (agrees p.0 x)) IsMeant (λ key.
    option_map (make key) (content p.0 p.1 args)) (for_kind p.0 (key_in (whole_language current) v))
    (key-agrees p.0 (key_in (whole_language current) v))
    (λ key a. map-where (IsLineContent key) IsMeant (make key) (content p.0 p.1 args)
    (content-holds p.0 p.1 args key count (omega arith) a) (h key)))

each-meant : (vs : List Token) (k : Kind) (n : ℕ) (key : Key) → IsCount n → IsTrue (agrees k key)
    → Holds IsMeant (each vs k n key)
each-meant vs (Scalar k) n key h a =
    then-all IsMeant (items n k key) (all (value_for k) vs)
    (λ zs. if-holds IsMeant (length zs == n) (asked.ConstructIt key k n zs) (λ e.
    (h.0, h.1, eqb-true (length zs) n e, a)))
each-meant vs String n key h a = tt
each-meant vs (Vector k) n key h a = tt
each-meant vs (Map k v) n key h a = tt
each-meant vs Strings n key h a = tt

making_each-meant : Meant making_each
making_each-meant [] room_is = tt
making_each-meant (w ∷ []) room_is = tt
making_each-meant (w ∷ v ∷ vs) room_is =
    then-holds IsCounted IsMeant (λ (k, n).
    option_and_then (λ key. each vs k n key) (for_kind k (new_key (whole_language current) v)))
    (counted_kind (whole_language current) w) (kinds-count w)
    (λ p count. then-holds (λ (x : Key). IsTrue (agrees p.0 x)) IsMeant (λ key.
    each vs p.0 p.1 key) (for_kind p.0 (new_key (whole_language current) v))
    (key-agrees p.0 (new_key (whole_language current) v))
    (λ key a. each-meant vs p.0 p.1 key count a))

abbrev IsFormMeant : Form → Type 0
IsFormMeant f = Meant f.1

-- one and the others
also : {A B : Type 0} → A → B → A × B
also a b = (a, b)

forms-meant : AllByRecursion IsFormMeant forms
forms-meant =
    also (making-meant asked.Construct new_key (λ k x h. h)) (also making_each-meant (also finding-meant
    (also (making-meant asked.FindOrConstruct name_key (λ k x h. h))
    (also (key-meant asked.Destroy name_key (λ k. tt)) (also destroying-meant
    (also (key-meant asked.Show key_of (λ k. tt)) (also (key-meant asked.Info key_of (λ k. tt))
    (also (key-number-meant asked.Get (λ k n. tt)) (also (key-number-literal-meant asked.Set (λ k n m few. few))
    (also (key-literal-meant asked.Push (λ k m few. few)) (also (key-meant asked.Pop key_of (λ k. tt))
    (also (key-number-literal-meant asked.Insert (λ k n m few. few)) (also (key-number-meant asked.Erase (λ k n. tt))
    (also (key-number-meant asked.Reserve (λ k n. tt)) (also (key-meant asked.Shrink key_of (λ k. tt))
    (also (key-meant asked.Clear key_of (λ k. tt)) (also assigning-meant (also appending-meant (also putting-meant
    (also (key-literal-meant asked.Lookup (λ k m few. tt)) (also (key-literal-meant asked.Remove (λ k m few. tt))
    (also (alone-meant asked.ListNames tt) (also (alone-meant asked.ListKinds tt)
    (also (alone-meant asked.ListBlocks tt) (also (alone-meant asked.Size tt) (also (alone-meant asked.Free tt)
    (also (alone-meant asked.NumNamed tt) (also (alone-meant asked.NumUnique tt)
    (also (number-meant asked.ReserveNamed (λ n. tt)) (also (number-meant asked.ReserveUnique (λ n. tt))
    (also (alone-meant asked.ShrinkIndexes tt) (also (alone-meant asked.ZeroFree tt)
    (also (alone-meant asked.Sanity tt)
    (also (alone-meant asked.AllDeallocated tt) tt))))))))))))))))))))))))))))))))))

find-if : (t : Form → Bool) (b : Bool) (f : Form) (r : Option Form) → IsFormMeant f → Holds IsFormMeant r
    → Holds IsFormMeant (if b then Some f else r)
find-if t true f r h k = h
find-if t false f r h k = k

found-meant : (t : Form → Bool) (fs : List Form) → AllByRecursion IsFormMeant fs → Holds IsFormMeant (find t fs)
found-meant t [] h = tt
found-meant t (f ∷ fs) h = find-if t (t f) f (find t fs) h.0 (found-meant t fs h.1)

-- ---- the line

tokens-fit : (rest : List ℕ) (r : Option (List Token)) → tokens rest ≡ r → length rest ≤ 4096
    → Holds (λ ws. held_len ws ≤ 4097) r
tokens-fit rest None e short = tt
tokens-fit rest (Some ws) e short = omega (arith, tokens_room rest ws e)

abbrev IsReadingMeant : Reading → Type 0
IsReadingMeant (Asked c) = IsMeant c
IsReadingMeant Nothing = ⊤
IsReadingMeant UnknownCommand = ⊤
IsReadingMeant LineTooLong = ⊤
IsReadingMeant BadSyntax = ⊤

as-meant : (r : Option Command) → Holds IsMeant r → IsReadingMeant (as_reading r)
as-meant None h = tt
as-meant (Some c) h = h

tokens-if : (rest : List ℕ) (r : Option Form) → length rest ≤ 4096 → Holds IsFormMeant r
    → IsReadingMeant (elim r as (λ _. Reading) [
      | None ↦ UnknownCommand
      | Some form ↦ as_reading (option_and_then (form.1 (whole_language current)) (tokens rest))
    ])
tokens-if rest None short h = tt
tokens-if rest (Some f) short h =
    as-meant (option_and_then (f.1 (whole_language current)) (tokens rest))
    (then-holds (λ ws. held_len ws ≤ 4097) IsMeant (f.1 (whole_language current)) (tokens rest)
    (tokens-fit rest (tokens rest) refl short) (λ ws fits. h ws fits))

command-meant : (line : List ℕ) → length line ≤ 4096 → IsReadingMeant (command_line (whole_language current) line)
command-meant [] short = tt
command-meant (c ∷ cs) short =
    let first = take_while (λ c. not (is_blank c)) (c ∷ cs) in
    tokens-if (drop (length first) (c ∷ cs)) (form_of first) (omega (arith, length-drop (length first) (c ∷ cs)))
    (found-meant (λ (f : Form). is_token first f.0) forms forms-meant)

meant-if : (b : Bool) (x y : Reading) → IsReadingMeant x → (b ≡ false → IsReadingMeant y)
    → IsReadingMeant (if b then x else y)
meant-if true x y h k = h
meant-if false x y h k = k refl

blank-if : (b : Bool) (c : ℕ) (cs : List ℕ) → length (skip_blanks cs) ≤ length cs
    → length (if b then skip_blanks cs else c ∷ cs) ≤ length (c ∷ cs)
blank-if true c cs h = omega arith
blank-if false c cs h = omega arith

blanks-short : (line : List ℕ) → length (skip_blanks line) ≤ length line
blanks-short [] = omega arith
blanks-short (c ∷ cs) = blank-if (is_blank c) c cs (blanks-short cs)

line-meant : (line : List ℕ) → IsReadingMeant (reading (whole_language current) line)
unfolding reading
line-meant line =
    let line = without_return line in
    meant-if (nat_lt 4096 (length line)) LineTooLong _ tt
    (λ few. meant-if (slice_index line 0 == 0x23) Nothing _ tt
    (λ _. command-meant (skip_blanks line) (omega (arith, blanks-short line, ltb-false 4096 (length line) few))))

-- what a line asks for can be
pub asked-meant : (c : Command) (line : List ℕ) → Asked c ≡ reading (whole_language current) line → IsMeant c
asked-meant c line e = subst IsReadingMeant (sym e) (line-meant line)
