use Rattle.segment_scripts.proofs.values.Texts.{AreTexts}
use Rattle.segment_scripts.proofs.text_buffers.literal_texts.Given as goal

abbrev pub invariant-literals : goal.invariant-literals
invariant-literals l = record {
  can : goal.iterator-literals.can_next l.literal-iterator;
  finite : goal.iterator-literals.is_finite l.literal-iterator;
  read : AreTexts l.fn.literals l.literal-iterator l.buffer;
}
