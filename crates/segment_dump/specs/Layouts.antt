-- How the elements of an object are laid out in a text.
use Rattle.segment_dump.specs.Texts.{element_line, pair_line, text_lines}
pub use Rattle.segment_values.specs.Layouts.{Spelling, laid_at, laid_from, laid_object, laid_out}

-- the layout of a dump: lines, at any offset
abbrev pub in_lines : Spelling
in_lines = record {
  scalar = λ i k z. element_line k z;
  text = λ i bs. text_lines bs;
  pair = λ i k v p. pair_line k v p;
}
