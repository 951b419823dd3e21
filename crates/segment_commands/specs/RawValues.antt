-- How a value is printed without quotes.
use Rattle.std.specs.Prelude.{ℕ, List}
use Rattle.seg_types.specs.Values.{kind_of_scalar, value_of_scalar}
use Rattle.segment_lang.specs.Texts.{value_text}
use Rattle.segment_commands.specs.declared.getting.RawValue.{RawValue}
use Rattle.segment_commands.specs.declared.getting.RawValue.TheVariants.{Scalar, Text}

-- a scalar as a script spells it, and the bytes of a text
abbrev pub raw_text : RawValue → List ℕ
raw_text (Scalar value) = value_text (kind_of_scalar value) (value_of_scalar value)
raw_text (Text text) = text.now
