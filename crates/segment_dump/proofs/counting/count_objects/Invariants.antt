use Rattle.segment_dump.proofs.counting.Dumps.{InObjects}
use Rattle.segment_dump.specs.Asked.{AskTogether, AsksObject, Begins}
use Rattle.segment_dump.proofs.counting.count_objects.Given as goal

abbrev pub invariant-objects : goal.invariant-objects
invariant-objects l = record {
  left : InObjects l.text l.rest l.needs l.counter;
  asks : Begins (AskTogether AsksObject l.counter) l.text l.needs l.rest;
}
