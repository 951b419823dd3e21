use Rattle.segment_dump.proofs.counting.Contents.{InTexts}
use Rattle.segment_dump.specs.Asked.{AskTogether, AsksText, Begins}
use Rattle.segment_dump.proofs.counting.count_texts.Given as goal

abbrev pub invariant-texts : goal.invariant-texts
invariant-texts l = record {
  left : InTexts l.text l.rest l.needs l.count l.counter;
  asks : Begins (AskTogether AsksText l.counter) l.text l.needs l.rest;
}
