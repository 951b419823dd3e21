-- Values as callers write them.
use Rattle.std.specs.Prelude.{◌≡◌, ℕ, List}
use Rattle.seg_types.specs.declared.values.ScalarValue.{ScalarValue}
use Rattle.seg_types.specs.Commands.{Literal, Quoted, literal_of}
use Rattle.seg_types.specs.Values.{kind_of_scalar, value_of_scalar}

-- the literal that a script writes for the value: it keeps only whether the value is a truth value
abbrev pub literal_seen : ScalarValue → Literal
literal_seen v = literal_of (kind_of_scalar v) (value_of_scalar v)

-- the literal is no text
abbrev pub NoText : Literal → Type 0
NoText l = (bs : List ℕ) → l ≡ Quoted bs → ⊥
