-- So many objects came, and no more than the most.
use Rattle.std.proofs.Common.{◌≡◌, ◌≤◌}
use Rattle.segment_commands.proofs.drawing.has_more_objects.Given as goal

abbrev pub invariant-objects : goal.invariant-objects
invariant-objects l = record {
  can : (goal.iterator-objects).can_next l.said-iterator;
  finite : (goal.iterator-objects).is_finite l.said-iterator;
  segment : l.said-iterator.segment ≡ l.segment;
  counted : l.count ≡ l.said-iterator.at;
  within : l.count ≤ l.most;
}
