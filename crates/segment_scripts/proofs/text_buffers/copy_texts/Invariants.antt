use Rattle.segment_scripts.proofs.values.Texts.{IsGathered}
use Rattle.segment_scripts.proofs.text_buffers.copy_texts.Given as goal

abbrev pub invariant-texts : goal.invariant-texts
invariant-texts l = record {
  can : goal.iterator-texts.can_next l.text-iterator;
  finite : goal.iterator-texts.is_finite l.text-iterator;
  gathered : IsGathered l.fn.texts l.text-iterator l.buffer;
}
