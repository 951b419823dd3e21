-- A value of a plain type that is read from bytes; for a scalar type by the whole number in the bytes, and that number.
use Rattle.std.proofs.Common.{◌≡◌, sym, ap, subst, ◌∙◌, ℕ, suc, ◌<◌, refl, inl, inr, Bool, true, false, ◌&&◌, ◌==◌}
use Rattle.std.proofs.Common.{if◌then◌else◌, List, [], ◌∷◌, length, get_or, Option, Some, None, MatchOption, ℤ, zero}
use Rattle.std.proofs.Common.{pos, negsuc, arith}
use Rattle.std.proofs.lemmas.Bool.{and_parts, and_from, cases_Bool, cond-true, eq-eqb, eqb-true, false≢true}
use Rattle.std.proofs.lemmas.Bool.{false_from_ne_true}
use Rattle.std.specs.List.{AllByRecursion}
use Rattle.byteorder.specs.Endian.{little_number}
use Rattle.seg_types.specs.declared.kinds.ScalarKind.{ScalarKind}
use Rattle.seg_types.specs.Kinds.{size_of, is_value, value_of, spelling, is_spelling, SpellsOne}
use Rattle.seg_types.specs.Plain.{Decodes, same_bytes, value_in}
use Rattle.seg_types.specs.ScalarLaws.{all_spell_one}
use Rattle.seg_types.specs.declared.kinds.ScalarKind.TheVariants.{Bool as BoolKind, U8, I32, I64, U64}
use Rattle.seg_types.specs.Values.{kind_of_scalar, scalar_of, value_of_scalar}

-- ---- plain types

-- bytes that spell a value are read as it
pub written-read : {T : Type 0} (is_one : T → Bool) (spell : T → List ℕ)
    → ((x y : T) → is_one x ≡ true → is_one y ≡ true → spell x ≡ spell y → x ≡ y)
    → (bytes : List ℕ) (r : Option T) → Decodes is_one spell bytes r → (x : T) → is_one x ≡ true → spell x ≡ bytes
    → r ≡ Some x
written-read is_one spell differs bytes (Some y) reads x one e = ap Some (differs y x reads.0 one (reads.1 ∙ sym e))
written-read is_one spell differs bytes None none x one e = absurd (none x one e)

same-refl : (xs : List ℕ) → same_bytes xs xs ≡ true
same-refl [] = refl
same-refl (x ∷ xs) = and_from (x == x) (same_bytes xs xs) (eq-eqb x x refl) (same-refl xs)

same-equal : (xs ys : List ℕ) → same_bytes xs ys ≡ true → xs ≡ ys
same-equal [] [] h = refl
same-equal [] (y ∷ ys) h = absurd (false≢true h)
same-equal (x ∷ xs) [] h = absurd (false≢true h)
same-equal (x ∷ xs) (y ∷ ys) h =
    let two = and_parts (x == y) (same_bytes xs ys) h in
    let here = eqb-true x y two.0 in let rest = same-equal xs ys two.1 in
    λ i. here i ∷ rest i

-- the spelling of a value is read as it
pub value-spelled : {T : Type 0} (reading : List ℕ → Option T) (is_one : T → Bool) (spell : T → List ℕ)
    → ((x : T) → is_one x ≡ true → reading (spell x) ≡ Some x)
    → (x : T) (bytes : List ℕ) → is_one x ≡ true → spell x ≡ bytes → value_in reading is_one spell bytes ≡ Some x
unfolding value_in
value-spelled {T} reading is_one spell reads x bytes one e =
    subst (λ bs. value_in reading is_one spell bs ≡ Some x) e
    (ap (λ (o : Option T). elim o as (λ _. Option T) [
      | None ↦ None
      | Some y ↦ if is_one y && same_bytes (spell y) (spell x) then Some y else None
    ]) (reads x one)
    ∙ cond-true (is_one x && same_bytes (spell x) (spell x)) (Some x) None
    (and_from (is_one x) (same_bytes (spell x) (spell x)) one (same-refl (spell x))))

-- the value that is read from bytes is the value that they encode
pub read-value : {T : Type 0} (reading : List ℕ → Option T) (is_one : T → Bool) (spell : T → List ℕ)
    → ((x : T) → is_one x ≡ true → reading (spell x) ≡ Some x)
    → (bytes : List ℕ) (r : Option T) → Decodes is_one spell bytes r → r ≡ value_in reading is_one spell bytes
unfolding value_in
read-value reading is_one spell reads bytes (Some x) h = sym (value-spelled reading is_one spell reads x bytes h.0 h.1)
read-value {T} reading is_one spell reads bytes None h = by_reading (reading bytes)
  where
    by_reading : (o : Option T) → None
        ≡ (elim o as (λ _. Option T) [
          | None ↦ None
          | Some x ↦ if is_one x && same_bytes (spell x) bytes then Some x else None
        ])
    by_reading None = refl
    by_reading (Some x) = elim (cases_Bool (is_one x && same_bytes (spell x) bytes)) [
      | inl t ↦ let two = and_parts (is_one x) (same_bytes (spell x) bytes) t
          in absurd (h x two.0 (same-equal (spell x) bytes two.1))
      | inr f ↦ rw f
    ]

-- ---- scalar types

-- values with one whole number are one value
pub whole-differs : {T : Type 0} (k : ScalarKind) (is_one : T → Bool) (spell : T → List ℕ) (whole : T → ℤ)
    → ((x y : T) → is_one x ≡ true → is_one y ≡ true → spell x ≡ spell y → x ≡ y)
    → ((x : T) → spell x ≡ spelling k (whole x))
    → (x y : T) → is_one x ≡ true → is_one y ≡ true → whole x ≡ whole y → x ≡ y
whole-differs k is_one spell whole differs spelled x y h i e =
    differs x y h i (spelled x ∙ ap (spelling k) e ∙ sym (spelled y))

all_bytes : (bytes : List ℕ) → ((i : ℕ) → get_or bytes i 0 < 256) → AllByRecursion (λ b. b < 256) bytes
all_bytes [] small = tt
all_bytes (b ∷ bytes) small = (small 0, all_bytes bytes (λ i. small (suc i)))

-- the whole number is that of the value that is read, and where none is read the bytes spell none of the kind
pub scalar-read : {T : Type 0} (k : ScalarKind) (is_one : T → Bool) (spell : T → List ℕ) (whole : T → ℤ)
    → ((x : T) → is_one x ≡ is_value k (whole x)) → ((x : T) → spell x ≡ spelling k (whole x))
    → ((z : ℤ) → is_value k z ≡ true → (x : T) × (whole x ≡ z))
    → (bytes : List ℕ) → ((i : ℕ) → get_or bytes i 0 < 256) → length bytes ≡ size_of k
    → (r : Option T) → Decodes is_one spell bytes r
    → MatchOption r (is_spelling k bytes ≡ false) (λ x. (is_spelling k bytes ≡ true)
    × (whole x ≡ value_of k (little_number (size_of k) bytes)))
scalar-read k is_one spell whole values spelled reached bytes small len (Some x) reads =
    let value : is_value k (whole x) ≡ true = sym (values x) ∙ reads.0 in
    let same : spelling k (whole x) ≡ bytes = sym (spelled x) ∙ reads.1 in
    let law : SpellsOne k (whole x) = all_spell_one k (whole x) value in (
      ap (is_spelling k) (sym same) ∙ law.is_one,
      sym law.reads ∙ ap (λ (bs : List ℕ). value_of k (little_number (size_of k) bs)) same,
    )
scalar-read k is_one spell whole values spelled reached bytes small len None none =
    false_from_ne_true (is_spelling k bytes) (λ h.
    let z : ℤ = value_of k (little_number (size_of k) bytes) in
    let found = reached z h in
    let same = (all_spell_one k z h).only bytes (all_bytes bytes small) len refl in
    none found.0 (values found.0 ∙ ap (is_value k) found.1 ∙ h) (spelled found.0 ∙ ap (spelling k) found.1 ∙ sym same))

-- ---- values of a kind and their numbers

-- the value of a kind that a number is has the kind
pub scalar_of-kind : (k : ScalarKind) (z : ℤ) → kind_of_scalar (scalar_of k z) ≡ k
scalar_of-kind BoolKind z = refl
scalar_of-kind k z = refl

-- and is the number, where that is in the range
pub scalar_of-value : (k : ScalarKind) (z : ℤ) → is_value k z ≡ true → value_of_scalar (scalar_of k z) ≡ z
scalar_of-value BoolKind (pos zero) h = refl
scalar_of-value BoolKind (pos (suc zero)) h = refl
scalar_of-value BoolKind (pos (suc (suc n))) h = absurd (grind arith)
scalar_of-value BoolKind (negsuc n) h = absurd (cc)
scalar_of-value U8 (pos n) h = refl
scalar_of-value U8 (negsuc n) h = absurd (cc)
scalar_of-value U64 (pos n) h = refl
scalar_of-value U64 (negsuc n) h = absurd (cc)
scalar_of-value I32 z h = refl
scalar_of-value I64 z h = refl
