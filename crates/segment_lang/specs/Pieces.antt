-- The pieces of an answer.
use Rattle.std.specs.Prelude.{ℕ, List, decimal}
use denote.Ref.{Bor}
use Rattle.seg_types.specs.Values.{kind_of_scalar, value_of_scalar}
use Rattle.segment_lang.specs.Texts.{kind_text, name_text, quoted_text, line_error_text, refusal_text, value_text}
use Rattle.segment_lang.specs.declared.pieces.Piece.{Piece}
use Rattle.segment_lang.specs.declared.pieces.Piece.TheVariants.{Bytes, Number, Value, Text, Name, Kind, LineError}
use Rattle.segment_lang.specs.declared.pieces.Piece.TheVariants.{Refusal}

-- a slice as it is
abbrev pub part_text : Bor (List ℕ) → List ℕ
part_text part = part.now

-- the text of a piece of an answer
abbrev pub piece_text : Piece → List ℕ
piece_text (Bytes bytes) = bytes.now
piece_text (Number n) = decimal n
piece_text (Value v) = value_text (kind_of_scalar v) (value_of_scalar v)
piece_text (Text text) = quoted_text text.now
piece_text (Name name) = name_text name.now
piece_text (Kind k) = kind_text k
piece_text (LineError e) = line_error_text e
piece_text (Refusal r) = refusal_text r
