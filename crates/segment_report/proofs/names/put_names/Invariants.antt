-- Of the names so far, those with the prefix are written.
use Rattle.std.proofs.Common.{◌≡◌}
use Rattle.segment_report.proofs.page.Names.{ListsFirstNames}
use Rattle.segment_report.proofs.names.put_names.Given as goal

abbrev pub invariant-names : goal.invariant-names
invariant-names g l = record {
  can : (goal.iterator-names g).can_next l.name-iterator;
  finite : (goal.iterator-names g).is_finite l.name-iterator;
  segment : l.name-iterator.segment ≡ l.segment;
  told : ListsFirstNames l.segment.cut.bytes (g.W.Sink.history l.initial.out) (g.W.Sink.history l.out) l.prefix l.most
      l.left l.name-iterator.at;
}
