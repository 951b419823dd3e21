-- Literals as values of a kind that is known later, and pairs of literals.
use Rattle.std.specs.Prelude.{◌≡◌, ℤ, true, Result, Ok, Err, List, ◌∷◌, []}
use Rattle.seg_types.specs.declared.kinds.ScalarKind.{ScalarKind}
use Rattle.seg_types.specs.declared.refusals.Refusal.{Refusal}
use Rattle.seg_types.specs.declared.refusals.Refusal.TheVariants.{WrongKind}
use Rattle.seg_types.specs.declared.values.ScalarValue.{ScalarValue}
use Rattle.seg_types.specs.Commands.{Literal, value_of_literal}
use Rattle.seg_types.specs.Kinds.{is_value}
use Rattle.seg_types.specs.Values.{kind_of_scalar, value_of_scalar}

-- the values of several literals: a wrong form among them takes precedence over a number out of range
abbrev pub cons_values : Result ℤ Refusal → Result (List ℤ) Refusal → Result (List ℤ) Refusal
cons_values (Ok z) (Ok zs) = Ok (z ∷ zs)
cons_values (Ok z) (Err r) = Err r
cons_values (Err WrongKind) zs = Err WrongKind
cons_values (Err r) (Err WrongKind) = Err WrongKind
cons_values (Err r) zs = Err r

-- the numbers of several literals
abbrev pub values_of : ScalarKind → List Literal → Result (List ℤ) Refusal
values_of k [] = Ok []
values_of k (l ∷ ls) = cons_values (value_of_literal k l) (values_of k ls)

-- the numbers of a key and a value
abbrev pub pair_values : ScalarKind → ScalarKind → Literal → Literal → Result (List ℤ) Refusal
pair_values k v key value = cons_values (value_of_literal k key) (cons_values (value_of_literal v value) (Ok []))

-- the result is this number as a value of the kind, or the same error
abbrev pub IsValueOf : ScalarKind → Result ℤ Refusal → Result ScalarValue Refusal → Type 0
IsValueOf k wanted (Ok v) = (kind_of_scalar v ≡ k) × (wanted ≡ Ok (value_of_scalar v))
    × (is_value k (value_of_scalar v) ≡ true)
IsValueOf k wanted (Err r) = wanted ≡ Err r

-- the value has the kind, and is in its range
abbrev pub IsOfScalarKind : ScalarKind → ScalarValue → Type 0
IsOfScalarKind k v = (kind_of_scalar v ≡ k) × (is_value k (value_of_scalar v) ≡ true)

-- the result is this key and this value with the kinds, or the same error
abbrev pub ConvertsPair : ScalarKind → ScalarKind → Result (List ℤ) Refusal → Result (ScalarValue × ScalarValue) Refusal
    → Type 0
ConvertsPair k v wanted (Ok p) = IsOfScalarKind k p.0 × IsOfScalarKind v p.1
    × (wanted ≡ Ok (value_of_scalar p.0 ∷ value_of_scalar p.1 ∷ []))
ConvertsPair k v wanted (Err r) = wanted ≡ Err r
