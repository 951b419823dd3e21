-- Names and kinds that are printed are read as themselves.
use Rattle.std.proofs.Common.{◌≡◌, ℕ, zero, suc, ◌<◌, ◌==◌, ◌&&◌, ◌||◌, Bool, true, false, cond, List, [], ◌∷◌, Option}
use Rattle.std.proofs.Common.{Some, None, ap, sym, refl, ◌∙◌, arith}
use Rattle.std.specs.Option.{option_map}
use Rattle.std.specs.List.{AllByRecursion, Contains, find, list_all}
use Rattle.std.specs.Cmp.Lexicographic.{other_text, same_text}
use Rattle.std.proofs.lemmas.Bool.{and_parts, false≢true}
use Rattle.std.proofs.lemmas.Bool.Decides.{nat_tests}
use Rattle.seg_types.specs.declared.kinds.Kind.{Kind}
use Rattle.seg_types.specs.declared.kinds.Kind.TheVariants.{Scalar, Vector, Map}
use Rattle.seg_types.specs.declared.kinds.ScalarKind.{ScalarKind}
use Rattle.seg_types.specs.declared.kinds.ScalarKind.TheVariants.{Bool as BoolKind, U8, I32, I64, U64}
use Rattle.seg_types.specs.Kinds.{kinds}
use Rattle.seg_types.specs.Names.{ByKind, ByName, Key, is_name}
use Rattle.segment_lang.specs.Lexing.{Bare, Text, bare_token, in_bare, in_text, is_token, is_bare, is_bare_name}
use Rattle.segment_lang.specs.Lexing.{is_blank}
use Rattle.segment_lang.specs.Lexing.{is_digit, is_letter, text_token, tokens}
use Rattle.segment_lang.specs.Texts.{kind_text, quoted_text}
use Rattle.segment_lang.specs.Language.{Language}
use Rattle.segment_lang.specs.Reading.{kind_named, name_key}
use Rattle.segment_lang.specs.Laws.{IsReadAsName, PrintedKindsAreRead, PrintedNamesAreRead}
use Rattle.segment_lang.proofs.texts.Spelling.{printed_texts_are_read}

-- ---- kinds

abbrev among : List Kind → Kind → Option Kind
among ks k = find (λ j. is_token (kind_text k) (kind_text j)) ks

read-map : (k v : ScalarKind) → among kinds (Map k v) ≡ Some (Map k v)
read-map BoolKind BoolKind = refl
read-map U8 BoolKind = refl
read-map I32 BoolKind = refl
read-map I64 BoolKind = refl
read-map U64 BoolKind = refl
read-map k v = refl

read-kind : (k : Kind) → among kinds k ≡ Some k
read-kind (Map k v) = read-map k v
read-kind (Scalar BoolKind) = refl
read-kind (Vector BoolKind) = refl
read-kind k = refl

-- no two kinds are printed alike
printed-one : (k j : Kind) → kind_text k ≡ kind_text j → k ≡ j
printed-one k j e =
    let same : ◌≡◌ {A = Option Kind} (Some k) (Some j) = sym (read-kind k)
    ∙ ap (λ w. find (λ j. is_token w (kind_text j)) kinds) e ∙ read-kind j in
    cc

found-first : (b : Bool) (k j : Kind) (x : Option Kind) → (b ≡ true → j ≡ k) → (b ≡ false → x ≡ Some k)
    → cond b (Some j) x ≡ Some k
found-first true k j x f g = ap Some (f refl)
found-first false k j x f g = g refl

same-kind : (k j : Kind) → is_token (kind_text k) (kind_text j) ≡ true → j ≡ k
same-kind k j e = sym (printed-one k j (same_text (kind_text k) (kind_text j) (sym e)))

other-kind : (k j : Kind) → j ≡ k → is_token (kind_text k) (kind_text j) ≡ false → ⊥
other-kind k j e f = other_text (kind_text k) (kind_text j) (sym f) (ap kind_text (sym e))

found-among : (ks : List Kind) (k : Kind) → Contains ks k → among ks k ≡ Some k
found-among [] k h = absurd (omega (arith, h.1))
found-among (j ∷ ks) k (zero, l, h) = found-first (is_token (kind_text k) (kind_text j)) k j (among ks k)
    (same-kind k j)
    (λ e. absurd (other-kind k j h e))
found-among (j ∷ ks) k (suc i, l, h) =
    found-first (is_token (kind_text k) (kind_text j)) k j (among ks k) (same-kind k j)
    (λ e. found-among ks k (i, omega (arith, l), h))

-- law: printed kinds are read
pub printed_kinds_are_read : PrintedKindsAreRead
unfolding kind_named
printed_kinds_are_read l k h = found-among l.kinds k h

-- ---- names

abbrev is_name_byte : ℕ → Bool
is_name_byte c = is_letter c || is_digit c || (c == 0x5F) || (c == 0x2E)

name_byte-no_blank : (c : ℕ) → is_name_byte c ≡ true → is_blank c ≡ false
name_byte-no_blank c h = grind (arith, nat_tests)

name_byte-bare : (c : ℕ) → is_name_byte c ≡ true → is_bare c ≡ true
name_byte-bare c h = grind (arith, nat_tests)

bare-bytes : (cs : List ℕ) → list_all is_name_byte cs ≡ true → in_bare cs ≡ Some (cs, [])
bare-bytes [] h = refl
bare-bytes (c ∷ cs) h =
    let p = and_parts (is_name_byte c) (list_all is_name_byte cs) h in
    rw (name_byte-no_blank c p.0, name_byte-bare c p.0, bare-bytes cs p.1) refl

abbrev is_first : ℕ → Bool
is_first c = is_letter c || (c == 0x5F)

first-byte : (c : ℕ) → is_first c ≡ true
    → (is_blank c ≡ false) × ((c == 0x22) ≡ false) × (is_bare c ≡ true) × ((c == 0x40) ≡ false)
first-byte c h = (
  grind (arith, nat_tests),
  grind (arith, nat_tests),
  grind (arith, nat_tests),
  grind
      (arith, nat_tests),
)

third : {A : Type 0} (b q f : Bool) (x y z w : A) → b ≡ false → q ≡ false → f ≡ true
    → cond b x (cond q y (cond f z w)) ≡ z
third b q f x y z w e g h = rw (e, g, h) refl

bare-token : (c : ℕ) (cs : List ℕ) → is_bare_name (c ∷ cs) ≡ true → tokens (c ∷ cs) ≡ Some (Bare (c ∷ cs) ∷ [])
bare-token c cs h =
    let p = and_parts (is_first c) (list_all is_name_byte cs) h in
    let f = first-byte c p.0 in
    third (is_blank c) (c == 0x22) (is_bare c) (tokens cs) (text_token (in_text cs)) (bare_token c (in_bare cs))
    None f.0
    f.1 f.2 ∙ ap (bare_token c) (bare-bytes cs p.1)

named : (b bare name : Bool) (x : Option Key) (key : Key) → b ≡ false → bare ≡ true → name ≡ true
    → cond b x (cond (bare && name) (Some key) None) ≡ Some key
named b bare name x key e f g = rw (e, f, g) refl

key-of-bare : (l : Language) (c : ℕ) (cs : List ℕ) → is_name l.format (c ∷ cs) ≡ true → is_bare_name (c ∷ cs) ≡ true
    → name_key l (Bare (c ∷ cs)) ≡ Some (ByName (c ∷ cs))
key-of-bare l c cs name bare =
    let p = and_parts (is_first c) (list_all is_name_byte cs) bare in
    let f = first-byte c p.0 in
    named (c == 0x40) (is_bare_name (c ∷ cs)) (is_name l.format (c ∷ cs)) (option_map ByKind (kind_named l cs))
    (ByName (c ∷ cs)) f.3 bare name

read-bare : (l : Language) (name : List ℕ) → is_name l.format name ≡ true → is_bare_name name ≡ true
    → IsReadAsName l name name
read-bare l [] name bare = absurd (false≢true bare)
read-bare l (c ∷ cs) name bare = record {
  token = Bare (c ∷ cs);
  tokens = bare-token c cs bare;
  key = key-of-bare l c cs
      name bare;
}

read-quoted : (l : Language) (name : List ℕ) → AllByRecursion (λ b. b < 256) name → is_name l.format name ≡ true
    → IsReadAsName l name (quoted_text name)
read-quoted l name small is_token =
    record { token = Text name; tokens = printed_texts_are_read name small; key = rw is_token refl }

read-name : (b : Bool) (l : Language) (name : List ℕ) → AllByRecursion (λ b. b < 256) name
    → is_name l.format name ≡ true → is_bare_name name ≡ b → IsReadAsName l name (cond b name (quoted_text name))
read-name true l name small is_token bare = read-bare l name is_token bare
read-name false l name small is_token bare = read-quoted l name small is_token

-- law: printed names are read
pub printed_names_are_read : PrintedNamesAreRead
printed_names_are_read l name small is_token = read-name (is_bare_name name) l name small is_token refl
