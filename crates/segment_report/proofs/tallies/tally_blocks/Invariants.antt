use Rattle.segment_manager.specs.Calls.{IsTileOfIndex}
use Rattle.segment_report.proofs.figures.Counts.{IsCounted}
use Rattle.segment_report.proofs.tallies.tally_blocks.Given as goal

abbrev pub invariant-tiles : goal.invariant-tiles
invariant-tiles l = record {
  next : IsTileOfIndex l.segment l.counter l.ahead;
  counted : IsCounted l.segment.cut.bytes l.tally l.counter;
}
