-- The values of the code as values of the definitions.
use Rattle.std.specs.Prelude.{◌≡◌, ◌≢◌, ℕ, ℤ, Result, Ok, Err, pos, nat_abs, nat_lt, true, false, List, Option, Some}
use Rattle.std.specs.Prelude.{None}
use Rattle.byteorder.specs.Endian.{little_number}
use Rattle.seg_types.specs.declared.kinds.ScalarKind.{ScalarKind}
use Rattle.seg_types.specs.declared.kinds.ScalarKind.TheVariants as kind
use Rattle.seg_types.specs.declared.values.ScalarValue.{ScalarValue}
use Rattle.seg_types.specs.declared.values.ScalarValue.TheVariants.{Bool as Boolean, U8, I32, I64, U64}
use Rattle.seg_types.specs.declared.refusals.Refusal.{Refusal}
use Rattle.seg_types.specs.declared.refusals.Refusal.TheVariants.{WrongKind}
use Rattle.seg_types.specs.Kinds.{is_spelling, size_of, truth_number, value_of}

-- the kind of a value
abbrev pub kind_of_scalar : ScalarValue → ScalarKind
kind_of_scalar (Boolean b) = kind.Bool
kind_of_scalar (U8 n) = kind.U8
kind_of_scalar (I32 z) = kind.I32
kind_of_scalar (I64 z) = kind.I64
kind_of_scalar (U64 n) = kind.U64

-- the value as a whole number
abbrev pub value_of_scalar : ScalarValue → ℤ
value_of_scalar (Boolean b) = truth_number b
value_of_scalar (U8 n) = pos n
value_of_scalar (I32 z) = z
value_of_scalar (I64 z) = z
value_of_scalar (U64 n) = pos n

-- a number in the range of a kind as a value of the kind
abbrev pub scalar_of : ScalarKind → ℤ → ScalarValue
scalar_of kind.Bool z = Boolean (nat_lt 0 (nat_abs z))
scalar_of kind.U8 z = U8 (nat_abs z)
scalar_of kind.I32 z = I32 z
scalar_of kind.I64 z = I64 z
scalar_of kind.U64 z = U64 (nat_abs z)

-- the result is the value of a kind that the bytes encode, or none if they encode no value of the kind
abbrev pub SpelledBy : ScalarKind → List ℕ → Option ScalarValue → Type 0
SpelledBy k bytes (Some v) = (is_spelling k bytes ≡ true) × (kind_of_scalar v ≡ k)
    × (value_of_scalar v ≡ value_of k (little_number (size_of k) bytes))
SpelledBy k bytes None = is_spelling k bytes ≡ false

-- the result is the value as a value of a type, with the same whole number, or `WrongKind` if the value has another
-- kind
abbrev pub ConvertsTo : {T : Type 0} → ScalarKind → (T → ℤ) → ScalarValue → Result T Refusal → Type 0
ConvertsTo k whole v (Ok x) = (kind_of_scalar v ≡ k) × (value_of_scalar v ≡ whole x)
ConvertsTo k whole v (Err why) = (kind_of_scalar v ≢ k) × (why ≡ WrongKind)
