-- Tables of command words and their forms.
use Rattle.std.proofs.Common.{◌≡◌, ℕ, zero, suc, ◌+◌, ◌<◌, ◌≤◌, nat_le, not, ◌&&◌, Bool, true, false, cond, List, []}
use Rattle.std.proofs.Common.{◌∷◌, length, map, Option, Some, None, ap, subst, sym, refl, ◌∙◌, ◌==◌, get_or, arith}
use Rattle.std.specs.Option.{option_map}
use Rattle.std.specs.Cmp.Lexicographic.{same_text}
use Rattle.std.specs.List.{filter, find, list_all}
use Rattle.std.proofs.lemmas.Bool.{eq-eqb}
use denote.Ref.{Bor}
use Rattle.segment_lang.specs.Lexing.{is_token, is_blank}
use Rattle.segment_lang.specs.Reading.{Form, Reader, form_of, forms}
use Rattle.segment_lang.specs.Seen.{KeywordRow, slot_of, reader_of, found_in, with_rest}
use Rattle.segment_lang.specs.Tokens.{up_to_blank}
use Rattle.segment_lang.specs.declared.forms.CommandForm.{CommandForm}
use Rattle.segment_lang.proofs.tokens.FirstTokens.{first_cons}

-- ---- rows that are lent

-- a row of a table that is lent
abbrev pub LentRow : Type 0 → Type 0
LentRow A = Bor (List ℕ) × A

abbrev pub lent_row : {A : Type 0} → LentRow A → KeywordRow A
lent_row row = (row.0.now, row.1)

lent_first : {A : Type 0} (b : Bool) (row : LentRow A) (x : Option (LentRow A)) (y : Option (KeywordRow A))
    → option_map lent_row x ≡ y → option_map lent_row (cond b (Some row) x) ≡ cond b (Some (lent_row row)) y
lent_first true row x y h = refl
lent_first false row x y h = h

lent_row_of : {A : Type 0} (rows : List (LentRow A)) (w : List ℕ)
    → option_map lent_row (find (λ (row : LentRow A). is_token w row.0.now) rows)
    ≡ find (λ (row : KeywordRow A). is_token w row.0)
    (map lent_row rows)
lent_row_of [] w = refl
lent_row_of {A} (row ∷ rows) w =
    lent_first (is_token w row.0.now) row (find (λ (row : LentRow A). is_token w row.0.now) rows)
    (find (λ (row : KeywordRow A). is_token w row.0) (map lent_row rows)) (lent_row_of rows w)

row_value : {A : Type 0} (x : Option (Bor (LentRow A)))
    → option_map (λ (row : KeywordRow A). row.1) (option_map lent_row (option_map (λ (y : Bor (LentRow A)). y.now) x))
    ≡ option_map (λ (y : Bor (LentRow A)). y.now.1) x
row_value None = refl
row_value (Some y) = refl

-- the row that is found is the word's
pub found_row : {A : Type 0} (rows : List (LentRow A)) (w : List ℕ) (x : Option (Bor (LentRow A))) (value : Option A)
    → option_map (λ (y : Bor (LentRow A)). y.now) x ≡ find (λ (row : LentRow A). is_token w row.0.now) rows
    → value ≡ option_map (λ (y : Bor (LentRow A)). y.now.1) x → value ≡ found_in (map lent_row rows) w
found_row {A} rows w x value h e =
    e ∙ sym (row_value x) ∙ ap (λ (x : Option (LentRow A)).
    option_map (λ (row : KeywordRow A). row.1) (option_map lent_row x))
    h ∙ ap (option_map (λ (row : KeywordRow A). row.1)) (lent_row_of rows w)

-- ---- the table

abbrev pub FormRow : Type 0
FormRow = KeywordRow CommandForm

-- a row with what its form means
abbrev pub form_row : FormRow → Form
form_row row = (row.0, reader_of row.1)

first_row : (b : Bool) (row : FormRow) (x : Option FormRow) (y : Option Form)
    → option_map reader_of (option_map (λ (row : FormRow). row.1) x) ≡ option_map (λ (f : Form). f.1) y
    → option_map reader_of (option_map (λ (row : FormRow). row.1) (cond b (Some row) x))
    ≡ option_map (λ (f : Form). f.1) (cond b (Some (form_row row)) y)
first_row true row x y h = refl
first_row false row x y h = h

form_in_rows : (rows : List FormRow) (w : List ℕ)
    → option_map reader_of (found_in rows w)
    ≡ option_map (λ (f : Form). f.1) (find (λ (f : Form). is_token w f.0) (map form_row rows))
form_in_rows [] w = refl
form_in_rows (row ∷ rows) w = first_row (is_token w row.0) row (find (λ (row : FormRow). is_token w row.0) rows)
    (find (λ (f : Form). is_token w f.0) (map form_row rows)) (form_in_rows rows w)

-- ---- the words at one place

-- the place of a word is below 32
pub slot_of-lt : (w : List ℕ) → slot_of w < 32
slot_of-lt [] = omega arith
slot_of-lt (a ∷ []) = omega arith
slot_of-lt (a ∷ b ∷ []) = omega arith
slot_of-lt (a ∷ b ∷ c ∷ w) = omega arith

unless_true : (b : Bool) → (b ≡ true → false ≡ true) → b ≡ false
unless_true true f = sym (f refl)
unless_true false f = refl

-- a long word that has another place than a long word of this place is not that word
other_place : (w v : List ℕ) (n : ℕ) → (3 ≤ length w → slot_of w ≡ n) → nat_le 3 (length v) ≡ true
    → (slot_of v == n) ≡ false → is_token w v ≡ false
other_place w v n p l h = unless_true (is_token w v) (λ e.
    let same : w ≡ v = same_text w v (sym e) in
    let long : 3 ≤ length w = rw same (grind arith) in
    sym h ∙ eq-eqb (slot_of v) n (ap slot_of (sym same) ∙ p long))

of_place : (c b : Bool) (w : List ℕ) (f : Form) (kept all : List Form) → is_token w f.0 ≡ b → (c ≡ false → b ≡ false)
    → find (λ (f : Form). is_token w f.0) kept ≡ find (λ (f : Form). is_token w f.0) all
    → find (λ (f : Form). is_token w f.0) (cond c (f ∷ kept) kept)
    ≡ cond b (Some f) (find (λ (f : Form). is_token w f.0) all)
of_place true b w f kept all e k h = rw (e, h) refl
of_place false true w f kept all e k h = cc (k refl)
of_place false false w f kept all e k h = h

-- whether each word is long enough to have a place of its own
abbrev pub are_long : List Form → Bool
are_long fs = list_all (λ (f : Form). nat_le 3 (length f.0)) fs

both : (a b : Bool) → (a && b) ≡ true → (a ≡ true) × (b ≡ true)
both true true h = (refl, refl)
both true false h = cc
both false b h = cc

-- of long words those at a place alone can be a word that has this place if it is long
found_by_place : (fs : List Form) (w : List ℕ) (n : ℕ) → (3 ≤ length w → slot_of w ≡ n) → are_long fs ≡ true
    → find (λ (f : Form). is_token w f.0) (filter (λ (f : Form). slot_of f.0 == n) fs)
    ≡ find (λ (f : Form). is_token w f.0) fs
found_by_place [] w n p l = refl
found_by_place (f ∷ fs) w n p l =
    let long = both (nat_le 3 (length f.0)) (are_long fs) l in
    of_place (slot_of f.0 == n) (is_token w f.0) w f (filter (λ (f : Form). slot_of f.0 == n) fs) fs refl
    (other_place w f.0 n p long.0) (found_by_place fs w n p long.1)

-- the words at a place, each with what stands after it
abbrev pub forms_of : ℕ → List Form
forms_of n = filter (λ (f : Form). slot_of f.0 == n) forms

-- Tables of the command words, each with its form: of those at place k, of those at the next, and so on.
abbrev pub AreForms : ℕ → List (List FormRow) → Type 0
AreForms k [] = Unit {0}
AreForms k (rows ∷ tables) = (map form_row rows ≡ forms_of k) × AreForms (suc k) tables

forms_at : (tables : List (List FormRow)) (k n : ℕ) → AreForms k tables → n < length tables
    → map form_row (get_or tables n []) ≡ forms_of (k + n)
forms_at [] k n h b = absurd (omega arith)
forms_at (rows ∷ tables) k zero h b = let e : k ≡ k + 0 = omega arith in h.0 ∙ ap forms_of e
forms_at (rows ∷ tables) k (suc n) h b = let e : suc k + n ≡ k + suc n = omega arith in
    forms_at tables (suc k) n h.1 (omega arith) ∙ ap forms_of e

-- a long first word has the place of its line
place_of_prefix : (line : List ℕ) → 3 ≤ length (up_to_blank line) → slot_of (up_to_blank line) ≡ slot_of line
place_of_prefix [] h = refl
place_of_prefix (a ∷ []) h = ap slot_of (first_cons a []) ∙ one (is_blank a) a
  where
    one : (x : Bool) (a : ℕ) → slot_of (cond (not x) (a ∷ []) []) ≡ 0
    one true a = refl
    one false a = refl
place_of_prefix (a ∷ b ∷ []) h = ap slot_of (first_cons a (b ∷ []) ∙ ap (λ w. cond (not (is_blank a)) (a ∷ w) [])
    (first_cons b [])) ∙ two (is_blank a) (is_blank b) a b
  where
    two : (x y : Bool) (a b : ℕ) → slot_of (cond (not x) (a ∷ cond (not y) (b ∷ []) []) []) ≡ 0
    two true y a b = refl
    two false true a b = refl
    two false false a b = refl
place_of_prefix (a ∷ b ∷ c ∷ w) h =
    let e = first_cons a (b ∷ c ∷ w) ∙ ap (λ v. cond (not (is_blank a)) (a ∷ v) []) (first_cons b (c ∷ w)
    ∙ ap (λ v. cond (not (is_blank b)) (b ∷ v) []) (first_cons c w)) in
    ap slot_of e ∙ three (is_blank a) (is_blank b) (is_blank c) a b c (up_to_blank w) w (subst (λ v. 3 ≤ length v) e h)
  where
    three : (x y z : Bool) (a b c : ℕ) (v w : List ℕ)
        → 3 ≤ length (cond (not x) (a ∷ cond (not y) (b ∷ cond (not z) (c ∷ v) []) []) [])
        → slot_of (cond (not x) (a ∷ cond (not y) (b ∷ cond (not z) (c ∷ v) []) []) []) ≡ slot_of (a ∷ b ∷ c ∷ w)
    three true y z a b c v w h = absurd (omega arith)
    three false true z a b c v w h = absurd (omega arith)
    three false false true a b c v w h = absurd (omega arith)
    three false false false a b c v w h = refl

-- The table of a line's place has for its first word the form that the language has for it.
pub form_in_tables : (tables : List (List FormRow)) (line : List ℕ) → AreForms 0 tables → slot_of line < length tables
    → option_map reader_of (found_in (get_or tables (slot_of line) []) (up_to_blank line))
    ≡ option_map (λ (f : Form). f.1) (form_of (up_to_blank line))
form_in_tables tables line h b =
    let e : 0 + slot_of line ≡ slot_of line = omega arith in
    let w : List ℕ = up_to_blank line in
    form_in_rows (get_or tables (slot_of line) []) w
    ∙ ap (λ (fs : List Form). option_map (λ (f : Form). f.1) (find (λ (f : Form). is_token w f.0) fs))
    (forms_at tables 0 (slot_of line) h b ∙ ap forms_of e)
    ∙ ap (option_map (λ (f : Form). f.1)) (found_by_place forms w (slot_of line) (place_of_prefix line) refl)

-- a form with its rest, and the reader of the form with it
abbrev pub form_seen : CommandForm × Bor (List ℕ) → CommandForm × List ℕ
form_seen y = (y.0, y.1.now)

abbrev pub reader_seen : CommandForm × List ℕ → Reader × List ℕ
reader_seen y = (reader_of y.0, y.1)

-- what is after a word stays where its form becomes a reader
reader_under : (line : List ℕ) (x : Option CommandForm)
    → option_map reader_seen (with_rest line x) ≡ with_rest line (option_map reader_of x)
reader_under line None = refl
reader_under line (Some form) = refl

lent_rest : (x : Option (CommandForm × Bor (List ℕ)))
    → option_map reader_seen (option_map form_seen x)
    ≡ option_map (λ (y : CommandForm × Bor (List ℕ)). reader_seen (form_seen y)) x
lent_rest None = refl
lent_rest (Some y) = refl

-- the form that is found, as its reader
pub found_reader : (line : List ℕ) (x : Option (CommandForm × Bor (List ℕ))) (form : Option CommandForm)
    (reader : Option Reader) → option_map form_seen x ≡ with_rest line form → option_map reader_of form ≡ reader
    → option_map (λ (y : CommandForm × Bor (List ℕ)). reader_seen (form_seen y)) x ≡ with_rest line reader
found_reader line x form reader h e =
    sym (lent_rest x) ∙ ap (option_map reader_seen) h ∙ reader_under line form ∙ ap (with_rest line) e
