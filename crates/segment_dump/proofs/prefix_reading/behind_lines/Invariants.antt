use Rattle.segment_dump.proofs.reading.Prefixes.{InLines}
use Rattle.segment_dump.specs.Asked.{Begins, IsLined}
use Rattle.segment_dump.proofs.prefix_reading.behind_lines.Given as goal

abbrev pub invariant-lines : goal.invariant-lines
invariant-lines l = record {
  skips : InLines l.text l.rest l.count l.counter;
  lined : Begins IsLined l.text l.counter l.rest;
}
