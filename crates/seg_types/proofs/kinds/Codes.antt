-- The parts of a code determine its kind: the container, the key and the element.
use Rattle.std.proofs.Common.{◌≡◌, ◌≢◌, refl, sym, ap, subst, ◌∙◌, ℕ, ◌/◌, ◌%◌, ◌≤◌, ◌==◌, Bool}
use Rattle.std.proofs.Common.{arith, List, [], ◌∷◌, inl, inr}
use Rattle.std.proofs.lemmas.Bool.{cases_Bool, eqb-true, ne_eqb}
use Rattle.std.proofs.lemmas.Option.{none-some, same_Some}
use Rattle.std.specs.Prelude.{Option, Some, None, cond, find, option_map}
use Rattle.seg_types.specs.Kinds.{code_of, kind_of_code, kinds, scalar_code, scalar_kinds, scalar_of_code}
use Rattle.seg_types.specs.declared.kinds.ScalarKind.{ScalarKind}
use Rattle.seg_types.specs.declared.kinds.ScalarKind.TheVariants.{Bool as BoolKind, U8, I32, I64, U64}
use Rattle.seg_types.specs.declared.kinds.Kind.{Kind}
use Rattle.seg_types.specs.declared.kinds.Kind.TheVariants.{Scalar, Vector, Map}

-- ---- codes are read

-- the kind of a kind's code
pub code-read : (k : Kind) → kind_of_code (code_of k) ≡ Some k
code-read (Scalar BoolKind) = refl
code-read (Vector BoolKind) = refl
code-read (Map BoolKind BoolKind) = refl
code-read (Map U8 BoolKind) = refl
code-read (Map I32 BoolKind) = refl
code-read (Map I64 BoolKind) = refl
code-read (Map U64 BoolKind) = refl
code-read kind = refl

-- the same for a number that equals the code
kind_is : (k : Kind) (code : ℕ) → code_of k ≡ code → kind_of_code code ≡ Some k
kind_is k code e = subst (λ c. kind_of_code c ≡ Some k) e (code-read k)

-- no kind is found by a code that none has
none_among : (code : ℕ) (ks : List Kind) → ((k : Kind) → code_of k ≢ code) → find (λ k. code_of k == code) ks ≡ None
none_among code [] none = refl
none_among code (k ∷ ks) none =
    ap (λ (b : Bool). cond b (Some k) (find (λ l. code_of l == code) ks)) (ne_eqb (code_of k) code (none k))
    ∙ none_among code ks none

no_kind : (code : ℕ) → ((k : Kind) → code_of k ≢ code) → kind_of_code code ≡ None
no_kind code none = none_among code kinds none

-- ---- scalars

scalar_most : (k : ScalarKind) → scalar_code k ≤ 5
scalar_most BoolKind = omega arith
scalar_most k = omega arith

-- the scalar kind of a scalar kind's code
scalar-read : (k : ScalarKind) → scalar_of_code (scalar_code k) ≡ Some k
unfolding scalar_of_code
scalar-read BoolKind = refl
scalar-read k = refl

-- no scalar kind has a code of none
scalar_none : (code : ℕ) → scalar_of_code code ≡ None → (k : ScalarKind) → scalar_code k ≢ code
scalar_none code none k e =
    none-some k (sym none ∙ subst (λ c. scalar_of_code c ≡ Some k) e (scalar-read k))

found_among : (code : ℕ) (ks : List ScalarKind) (l : ScalarKind) → find (λ s. code == scalar_code s) ks ≡ Some l
    → code ≡ scalar_code l
found_among code [] l is = absurd (none-some l is)
found_among code (k ∷ ks) l is = elim (cases_Bool (code == scalar_code k)) [
  | inl e ↦ eqb-true code (scalar_code k) e ∙ ap scalar_code (same_Some k l (rw e at is))
  | inr e ↦ found_among code ks l (rw e at is)
]

-- the scalar kind of a code has it
scalar_some : (code : ℕ) (k : ScalarKind) → scalar_of_code code ≡ Some k → code ≡ scalar_code k
unfolding scalar_of_code
scalar_some code k is = found_among code scalar_kinds k is

-- ---- kinds by their parts

no_scalar : (code : ℕ) → code / 65536 ≡ 0 → scalar_of_code code ≡ None → (k : Kind) → code_of k ≢ code
no_scalar code part none (Scalar s) e = scalar_none code none s e
no_scalar code part none k e = omega arith

scalar_if : (code : ℕ) → code / 65536 ≡ 0 → (o : Option ScalarKind) → scalar_of_code code ≡ o
    → kind_of_code code ≡ option_map Scalar o
scalar_if code part None is = no_kind code (no_scalar code part is)
scalar_if code part (Some k) is = kind_is (Scalar k) code (sym (scalar_some code k is))

-- a code below 65536 is that of a scalar
pub scalar_part : (code : ℕ) → code / 65536 ≡ 0 → kind_of_code code ≡ option_map Scalar (scalar_of_code code)
scalar_part code part = scalar_if code part (scalar_of_code code) refl

no_vector : (code : ℕ) → code / 65536 ≡ 2 → scalar_of_code (code % 65536) ≡ None → (k : Kind) → code_of k ≢ code
no_vector code part none (Scalar s) e = let most = scalar_most s in omega arith
no_vector code part none (Vector s) e = let most = scalar_most s in scalar_none (code % 65536) none s (omega arith)
no_vector code part none k e = omega arith

vector_if : (code : ℕ) → code / 65536 ≡ 2 → (o : Option ScalarKind) → scalar_of_code (code % 65536) ≡ o
    → kind_of_code code ≡ option_map Vector o
vector_if code part None is = no_kind code (no_vector code part is)
vector_if code part (Some k) is = let low = scalar_some (code % 65536) k is in kind_is (Vector k) code (omega arith)

-- a code from 131072 on is that of a vector, and its rest that of the element
pub vector_part : (code : ℕ) → code / 65536 ≡ 2
    → kind_of_code code ≡ option_map Vector (scalar_of_code (code % 65536))
vector_part code part = vector_if code part (scalar_of_code (code % 65536)) refl

-- a code with upper half word 3 means a map: byte 1 is the kind of its keys, byte 0 the kind of its values
pub map_part : (code : ℕ) (k v : ScalarKind) → code / 65536 ≡ 3 → scalar_of_code (code / 256 % 256) ≡ Some k
    → scalar_of_code (code % 256) ≡ Some v → kind_of_code code ≡ Some (Map k v)
map_part code k v part key value =
    let high = scalar_some (code / 256 % 256) k key in let low = scalar_some (code % 256) v value in
    kind_is (Map k v) code (omega arith)

no_map : (code : ℕ) → code / 65536 ≡ 3
    → ((k v : ScalarKind) → scalar_code k ≡ code / 256 % 256 → scalar_code v ≡ code % 256 → ⊥)
    → (k : Kind) → code_of k ≢ code
no_map code part none (Scalar s) e = let most = scalar_most s in omega arith
no_map code part none (Vector s) e = let most = scalar_most s in omega arith
no_map code part none (Map k v) e =
    let most = scalar_most k in let high = scalar_most v in none k v (omega arith) (omega arith)
no_map code part none k e = omega arith

-- without a key there is none
pub map_without_key : (code : ℕ) → code / 65536 ≡ 3 → scalar_of_code (code / 256 % 256) ≡ None
    → kind_of_code code ≡ None
map_without_key code part none =
    no_kind code (no_map code part (λ k v key value. scalar_none (code / 256 % 256) none k key))

-- nor without a value
pub map_without_value : (code : ℕ) → code / 65536 ≡ 3 → scalar_of_code (code % 256) ≡ None → kind_of_code code ≡ None
map_without_value code part none =
    no_kind code (no_map code part (λ k v key value. scalar_none (code % 256) none v value))
