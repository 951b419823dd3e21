-- The values of a line, taken one after another, as a type has them.
use Rattle.std.proofs.Common.{◌≡◌, refl, sym, ap, subst, ◌∙◌, ℕ, ◌+◌, ◌*◌, ◌<◌, ◌≤◌, ℤ, Bool, true, false, ◌&&◌}
use Rattle.std.proofs.Common.{if◌then◌else◌, Result, Ok, Err, List, [], ◌∷◌, ◌++◌, length, append_assoc, arith}
use Rattle.std.specs.Prelude.{IsTrue, map}
use Rattle.std.specs.List.{AllByRecursion, list_all}
use Rattle.std.proofs.lemmas.List.{append-nil, length-append, map-append}
use Rattle.std.proofs.lemmas.List.Folds.{list_all-append}
use Rattle.seg_types.specs.declared.kinds.ScalarKind.{ScalarKind}
use Rattle.seg_types.specs.declared.kinds.ScalarKind.TheVariants.{Bool as BoolKind, U8, I32, I64, U64}
use Rattle.seg_types.specs.declared.refusals.Refusal.{Refusal}
use Rattle.seg_types.specs.declared.refusals.Refusal.TheVariants.{ReadOnly, Exists, NotFound, WrongKind, OutOfRange}
use Rattle.seg_types.specs.declared.refusals.Refusal.TheVariants.{NoSpace}
use Rattle.seg_types.specs.declared.values.ScalarValue.{ScalarValue}
use Rattle.seg_types.specs.Kinds.{is_value}
use Rattle.seg_types.specs.Commands.{Literal, Integer, Boolean, Quoted, value_of_literal}
use Rattle.seg_types.specs.Values.{kind_of_scalar, scalar_of, value_of_scalar}
use Rattle.seg_types.proofs.Laws.{scalar_of-kind, scalar_of-value}
use Rattle.segment_lang.specs.declared.literals.Literal.{Literal as CodeLiteral}
use Rattle.segment_lang.specs.Arguments.{TypedNumbers, scalars_in}
use Rattle.segment_lang.specs.Seen.{literal_held, literal_of, literals_held}
use Rattle.segment_manager.specs.Step.{text_among}
use Rattle.seg_types.specs.Literals.{cons_values, values_of}
use Rattle.segment_scripts.specs.Replies.{bytes_taken}
use Rattle.segment_scripts.proofs.values.Arrays.{length-scalars, numbers-back}

-- ---- values of one kind

abbrev IsOf : ScalarKind → ScalarValue → Type 0
IsOf k v = (kind_of_scalar v ≡ k) × (is_value k (value_of_scalar v) ≡ true)

all-of : (k : ScalarKind) (zs : List ℤ) → AllByRecursion (λ z. IsTrue (is_value k z)) zs
    → AllByRecursion (IsOf k) (map (scalar_of k) zs)
all-of k [] h = tt
all-of k (z ∷ zs) h = ((scalar_of-kind k z, ap (is_value k) (scalar_of-value k z h.0) ∙ h.0), all-of k zs h.1)

-- the numbers of the row and those that are left are the line's
pub record IsFilled {T : Type 0} (whole : T → ℤ) (k : ScalarKind) (w t : TypedNumbers) (buffer : List T) : Type 0 where
  pub numbers : map whole buffer ++ map value_of_scalar (scalars_in t) ≡ w.numbers
  pub of_kind : AllByRecursion (IsOf k) (scalars_in t)
  pub few : length buffer + length (scalars_in t) ≤ 2048

-- before the first value the row is empty
pub filled-none : {T : Type 0} (whole : T → ℤ) (k : ScalarKind) (w : TypedNumbers) → w.kind ≡ k
    → AllByRecursion (λ z. IsTrue (is_value k z)) w.numbers → length w.numbers ≤ 2048 → IsFilled whole k w w []
filled-none whole k w e h few = record {
  numbers = numbers-back w.kind w.numbers
      (subst (λ j. AllByRecursion (λ z. IsTrue (is_value j z)) w.numbers) (sym e) h);
  of_kind = subst (λ j. AllByRecursion (IsOf k) (map (scalar_of j) w.numbers)) (sym e) (all-of k w.numbers h);
  few = omega (arith, length-scalars w.kind w.numbers);
}

-- the next value is of the kind
pub next-of : {T : Type 0} (whole : T → ℤ) (k : ScalarKind) (w t t' : TypedNumbers) (buffer : List T) (x : ScalarValue)
    → IsFilled whole k w t buffer → scalars_in t ≡ x ∷ scalars_in t' → IsOf k x
next-of whole k w t t' buffer x h e =
    let all : AllByRecursion (IsOf k) (x ∷ scalars_in t') = subst (AllByRecursion (IsOf k)) e h.of_kind in
    all.0

-- there is a place for it
pub next-fits : {T : Type 0} (whole : T
    → ℤ) (k : ScalarKind) (w t t' : TypedNumbers) (buffer : List T) (x : ScalarValue) → IsFilled whole k w t buffer
    → scalars_in t ≡ x ∷ scalars_in t' → length buffer < 2048
next-fits whole k w t t' buffer x h e =
    let few = h.few in
    let more : length (scalars_in t) ≡ length (x ∷ scalars_in t') = ap length e in
    omega arith

pub filled-more : {T : Type 0} (whole : T
    → ℤ) (k : ScalarKind) (w t t' : TypedNumbers) (buffer : List T) (x : ScalarValue) (y : T)
    → IsFilled whole k w t buffer → scalars_in t ≡ x ∷ scalars_in t' → whole y ≡ value_of_scalar x
    → IsFilled whole k w t' (buffer ++ y ∷ [])
filled-more whole k w t t' buffer x y h e same =
    let all : AllByRecursion (IsOf k) (x ∷ scalars_in t') = subst (AllByRecursion (IsOf k)) e h.of_kind in
    let few = h.few in
    let more : length (scalars_in t) ≡ length (x ∷ scalars_in t') = ap length e in
    record {
      numbers = ap (λ l. l ++ map value_of_scalar (scalars_in t')) (map-append whole buffer (y ∷ []))
          ∙ append_assoc (map whole buffer) (whole y ∷ []) (map value_of_scalar (scalars_in t'))
          ∙ ap (λ z. map whole buffer ++ z ∷ map value_of_scalar (scalars_in t')) same
          ∙ ap (λ l. map whole buffer ++ map value_of_scalar l) (sym e) ∙ h.numbers;
      of_kind = all.1;
      few = omega (arith, length-append buffer (y ∷ []));
    }

pub filled-all : {T : Type 0} (whole : T → ℤ) (k : ScalarKind) (w t : TypedNumbers) (buffer : List T)
    → IsFilled whole k w t buffer → scalars_in t ≡ [] → map whole buffer ≡ w.numbers
filled-all whole k w t buffer h e =
    sym (append-nil (map whole buffer)) ∙ ap (λ l. map whole buffer ++ map value_of_scalar l) (sym e) ∙ h.numbers

-- ---- literals

literal-back : (l : Literal) → literal_of (literal_held l) ≡ l
literal-back (Integer z) = refl
literal-back (Boolean b) = refl
literal-back (Quoted bs) = refl

literals-back : (ls : List Literal) → map literal_of (literals_held ls) ≡ ls
literals-back [] = refl
literals-back (l ∷ ls) = λ j. literal-back l j ∷ literals-back ls j

-- the next literal of a line is the first of the rest
pub next-literal : (s t : List Literal) (x : CodeLiteral) → literals_held s ≡ x ∷ literals_held t → s ≡ literal_of x ∷ t
next-literal s t x e = sym (literals-back s) ∙ ap (map literal_of) e ∙ ap (λ ls. literal_of x ∷ ls) (literals-back t)

-- no literal is left: the rest is empty
pub no-literal : (s : List Literal) → literals_held s ≡ [] → s ≡ []
no-literal s e = sym (literals-back s) ∙ ap (map literal_of) e

-- a text is a value of no kind
pub text-no_value : (k : ScalarKind) (bs : List ℕ) → value_of_literal k (Quoted bs) ≡ Err WrongKind
text-no_value BoolKind bs = refl
text-no_value U8 bs = refl
text-no_value I32 bs = refl
text-no_value I64 bs = refl
text-no_value U64 bs = refl

value-taken : (k : ScalarKind) (l : Literal) (ls : List Literal) (z : ℤ) → value_of_literal k l ≡ Ok z
    → bytes_taken (l ∷ ls) ≡ 2 + bytes_taken ls
value-taken k (Integer y) ls z e = refl
value-taken k (Boolean b) ls z e = refl
value-taken k (Quoted bs) ls z e = absurd (let wrong = text-no_value k bs in cc)

some-taken : (l : Literal) (ls : List Literal) → bytes_taken ls ≤ bytes_taken (l ∷ ls)
some-taken (Integer y) ls = omega arith
some-taken (Boolean b) ls = omega arith
some-taken (Quoted bs) ls = omega arith

past-if : (b : Bool) (z : ℤ) (why : Refusal) → (if b then Ok z else Err OutOfRange) ≡ Err why → why ≡ OutOfRange
past-if true z why e = absurd (cc)
past-if false z why e = cc

-- a literal of the right form is refused for its range alone
pub past-range : (k : ScalarKind) (l : Literal) (why : Refusal) → value_of_literal k l ≡ Err why
    → (why ≡ WrongKind → ⊥) → why ≡ OutOfRange
past-range BoolKind (Integer z) why e n = absurd (n cc)
past-range BoolKind (Boolean true) why e n = absurd (cc)
past-range BoolKind (Boolean false) why e n = absurd (cc)
past-range BoolKind (Quoted bs) why e n = absurd (n cc)
past-range U8 (Integer z) why e n = past-if (is_value U8 z) z why e
past-range U8 (Boolean b) why e n = absurd (n cc)
past-range U8 (Quoted bs) why e n = absurd (n cc)
past-range I32 (Integer z) why e n = past-if (is_value I32 z) z why e
past-range I32 (Boolean b) why e n = absurd (n cc)
past-range I32 (Quoted bs) why e n = absurd (n cc)
past-range I64 (Integer z) why e n = past-if (is_value I64 z) z why e
past-range I64 (Boolean b) why e n = absurd (n cc)
past-range I64 (Quoted bs) why e n = absurd (n cc)
past-range U64 (Integer z) why e n = past-if (is_value U64 z) z why e
past-range U64 (Boolean b) why e n = absurd (n cc)
past-range U64 (Quoted bs) why e n = absurd (n cc)

-- what all literals are read as, where those before were read as numbers, or one of them was out of range
abbrev before : Bool → List ℤ → Result (List ℤ) Refusal → Result (List ℤ) Refusal
before true zs (Ok ys) = Ok (zs ++ ys)
before true zs (Err why) = Err why
before false zs (Err WrongKind) = Err WrongKind
before false zs r = Err OutOfRange

before-none : (r : Result (List ℤ) Refusal) → before true [] r ≡ r
before-none (Ok ys) = refl
before-none (Err why) = refl

before-value : (zs : List ℤ) (z : ℤ) (r : Result (List ℤ) Refusal)
    → before true zs (cons_values (Ok z) r) ≡ before true (zs ++ z ∷ []) r
before-value zs z (Ok ys) = ap Ok (sym (append_assoc zs (z ∷ []) ys))
before-value zs z (Err why) = refl

before-passed : (zs : List ℤ) (z : ℤ) (r : Result (List ℤ) Refusal)
    → before false zs (cons_values (Ok z) r) ≡ before false zs r
before-passed zs z (Ok ys) = refl
before-passed zs z (Err why) = refl

before-wrong : (b : Bool) (zs : List ℤ) → before b zs (Err WrongKind) ≡ Err WrongKind
before-wrong true zs = refl
before-wrong false zs = refl

before-out : (b : Bool) (zs : List ℤ) → before b zs (Err OutOfRange) ≡ Err OutOfRange
before-out true zs = refl
before-out false zs = refl

before-past : (b : Bool) (zs : List ℤ) (r : Result (List ℤ) Refusal)
    → before b zs (cons_values (Err OutOfRange) r) ≡ before false zs r
before-past b zs (Ok ys) = before-out b zs
before-past b zs (Err ReadOnly) = before-out b zs
before-past b zs (Err Exists) = before-out b zs
before-past b zs (Err NotFound) = before-out b zs
before-past b zs (Err WrongKind) = before-wrong b zs
before-past b zs (Err OutOfRange) = before-out b zs
before-past b zs (Err NoSpace) = before-out b zs

and-both : (a b : Bool) → a ≡ true → b ≡ true → (a && b) ≡ true
and-both true b e f = f
and-both false b e f = absurd (cc)

-- one more in the range
range-more : (k : ScalarKind) (zs : List ℤ) (z : ℤ) → IsTrue (list_all (is_value k) zs) → is_value k z ≡ true
    → IsTrue (list_all (is_value k) (zs ++ z ∷ []))
range-more k zs z h e = list_all-append (is_value k) zs (z ∷ [])
    ∙ and-both (list_all (is_value k) zs) (is_value k z && true) h (and-both (is_value k z) true e refl)

-- what the literals are read as, by the row so far and by those that are left
pub record IsRead {T : Type 0} (whole : T
    → ℤ) (k : ScalarKind) (ls rest : List Literal) (buffer : List T) (fits : Bool) : Type 0 where
  pub values : values_of k ls ≡ before fits (map whole buffer) (values_of k rest)
  pub few : 2 * length buffer + bytes_taken rest ≤ 4097
  pub range : IsTrue (list_all (is_value k) (map whole buffer))

pub read-none : {T : Type 0} (whole : T → ℤ) (k : ScalarKind) (ls : List Literal) → bytes_taken ls ≤ 4097
    → IsRead whole k ls ls [] true
read-none whole k ls few = record { values = sym (before-none (values_of k ls)); few = omega arith; range = refl }

module _ {T : Type 0} (whole : T
    → ℤ) (k : ScalarKind) (ls rest rest' : List Literal) (buffer : List T) (l : Literal) (fits : Bool)
    (h : IsRead whole k ls rest buffer fits) (next : rest ≡ l ∷ rest') where
  left : values_of k ls ≡ before fits (map whole buffer) (cons_values (value_of_literal k l) (values_of k rest'))
  left = h.values ∙ ap (λ r. before fits (map whole buffer) (values_of k r)) next

  fewer : 2 * length buffer + bytes_taken (l ∷ rest') ≤ 4097
  fewer = subst (λ r. 2 * length buffer + bytes_taken r ≤ 4097) next h.few

  -- a value has a place
  pub value-fits : (z : ℤ) → value_of_literal k l ≡ Ok z → length buffer < 2048
  value-fits z e = omega (arith, fewer, value-taken k l rest' z e)

  -- a literal that is a value is read
  pub read-value : (z : ℤ) (y : T) → fits ≡ true → value_of_literal k l ≡ Ok z → is_value k z ≡ true → whole y ≡ z
      → IsRead whole k ls rest' (buffer ++ y ∷ []) true
  read-value z y t e good same = record {
    values = left ∙ (λ i. before (t i) (map whole buffer) (cons_values (e i) (values_of k rest')))
        ∙ before-value (map whole buffer) z (values_of k rest')
        ∙ ap (λ x. before true (map whole buffer ++ x ∷ []) (values_of k rest')) (sym same)
        ∙ ap (λ zs. before true zs (values_of k rest')) (sym (map-append whole buffer (y ∷ [])));
    few = omega (arith, fewer, value-taken k l rest' z e, length-append buffer (y ∷ []));
    range = subst (λ zs. IsTrue (list_all (is_value k) zs)) (ap (λ x. map whole buffer ++ x ∷ []) (sym same)
        ∙ sym (map-append whole buffer (y ∷ []))) (range-more k (map whole buffer) z h.range good);
  }

  -- a value that is dropped, after one that is out of range
  pub read-passed : (z : ℤ) → fits ≡ false → value_of_literal k l ≡ Ok z → IsRead whole k ls rest' buffer false
  read-passed z t e = record {
    values = left ∙ (λ i. before (t i) (map whole buffer) (cons_values (e i) (values_of k rest')))
        ∙ before-passed (map whole buffer) z (values_of k rest');
    few = omega (arith, fewer, value-taken k l rest' z e);
    range = h.range;
  }

  -- a literal that is no value: the row does not fit
  pub read-past : (why : Refusal) → value_of_literal k l ≡ Err why → (why ≡ WrongKind → ⊥)
      → IsRead whole k ls rest' buffer false
  read-past why e n = record {
    values = left ∙ ap (λ r. before fits (map whole buffer) (cons_values r (values_of k rest'))) (e
        ∙ ap Err (past-range k l why e n)) ∙ before-past fits (map whole buffer) (values_of k rest');
    few = omega (arith, fewer, some-taken l rest');
    range = h.range;
  }

  -- a literal of the wrong kind is refused
  pub read-wrong : value_of_literal k l ≡ Err WrongKind → values_of k ls ≡ Err WrongKind
  read-wrong e = left ∙ ap (λ r. before fits (map whole buffer) (cons_values r (values_of k rest'))) e
      ∙ before-wrong fits (map whole buffer)

module _ {T : Type 0} (whole : T
    → ℤ) (k : ScalarKind) (ls rest : List Literal) (buffer : List T) (fits : Bool)
    (h : IsRead whole k ls rest buffer fits) (done : rest ≡ []) where
  ended : values_of k ls ≡ before fits (map whole buffer) (Ok [])
  ended = h.values ∙ ap (λ r. before fits (map whole buffer) (values_of k r)) done

  -- all literals are values: the row has them
  pub read-all : fits ≡ true → values_of k ls ≡ Ok (map whole buffer)
  read-all t = ended ∙ ap (λ b. before b (map whole buffer) (Ok [])) t ∙ ap Ok (append-nil (map whole buffer))

  -- a literal out of the range is refused
  pub read-out : fits ≡ false → values_of k ls ≡ Err OutOfRange
  read-out t = ended ∙ ap (λ b. before b (map whole buffer) (Ok [])) t

-- ---- the one text

pub text-none : (ls : List Literal) → ls ≡ [] → text_among ls ≡ Err WrongKind
text-none ls e = ap text_among e

pub text-other : (ls rest : List Literal) (l : Literal) → ls ≡ l ∷ rest → ((bs : List ℕ) → l ≡ Quoted bs → ⊥)
    → text_among ls ≡ Err WrongKind
text-other ls rest (Integer z) e n = ap text_among e
text-other ls rest (Boolean b) e n = ap text_among e
text-other ls rest (Quoted bs) e n = absurd (n bs refl)

pub text-more : (ls rest more : List Literal) (l m : Literal) → ls ≡ l ∷ rest → rest ≡ m ∷ more
    → text_among ls ≡ Err WrongKind
text-more ls rest more (Integer z) m e f = ap text_among e
text-more ls rest more (Boolean b) m e f = ap text_among e
text-more ls rest more (Quoted bs) m e f = ap text_among e ∙ ap (λ r. text_among (Quoted bs ∷ r)) f

pub text-alone : (ls rest : List Literal) (bs : List ℕ) → ls ≡ Quoted bs ∷ rest → rest ≡ [] → text_among ls ≡ Ok bs
text-alone ls rest bs e f = ap text_among e ∙ ap (λ r. text_among (Quoted bs ∷ r)) f

-- a text of a line has at most 4096 bytes
pub text-fits : (ls rest : List Literal) (bs : List ℕ) → ls ≡ Quoted bs ∷ rest → bytes_taken ls ≤ 4097
    → length bs ≤ 4096
text-fits ls rest bs e few = let same = ap bytes_taken e in omega arith
