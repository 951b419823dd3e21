-- What was counted is the objects that came.
use Rattle.std.proofs.Common.{◌≡◌}
use Rattle.segment_report.proofs.figures.Objects.{AreCounted}
use Rattle.segment_report.proofs.objects.tally_objects.Given as goal

abbrev pub invariant-objects : goal.invariant-objects
invariant-objects l = record {
  can : (goal.iterator-objects).can_next l.said-iterator;
  finite : (goal.iterator-objects).is_finite l.said-iterator;
  segment : l.said-iterator.segment ≡ l.segment;
  counted : AreCounted l.segment.cut.bytes l.tally l.said-iterator.at;
}
