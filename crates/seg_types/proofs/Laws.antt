-- The laws of values for other crates.

-- a value is spelled in one way
pub use Rattle.seg_types.specs.ScalarLaws.{all_spell_one}
-- the bytes of a number, the lowest first: how many they are, and which; and the number that bytes are
pub use Rattle.seg_types.specs.ScalarLaws.{bytes-back, number-small}
pub use Rattle.seg_types.specs.ScalarLaws.{bytes_low_first-length, bytes_low_first-next, byte_at-is, byte_at-next}
-- two's complement, there and back
pub use Rattle.seg_types.specs.ScalarLaws.{i32-back, i64-back, i64-fits, i64-fits_below, i64-high, i64-low, number-back}
-- a value of a plain type that is written is read back, and a scalar is read as its number
pub use Rattle.seg_types.proofs.scalars.PlainReads.{written-read, whole-differs, scalar-read, value-spelled, read-value}
-- the value of a kind that a number is
pub use Rattle.seg_types.proofs.scalars.PlainReads.{scalar_of-kind, scalar_of-value}
-- the kind of a kind's code
pub use Rattle.seg_types.proofs.kinds.Codes.{code-read}
