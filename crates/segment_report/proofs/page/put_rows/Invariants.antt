-- The rows of the objects that came have gone out.
use Rattle.std.proofs.Common.{◌≡◌}
use Rattle.segment_manager.specs.Directory.{Directory}
use Rattle.segment_report.specs.Page.{object_row}
use Rattle.segment_report.proofs.page.Output.{IsTold}
use Rattle.segment_report.proofs.page.put_rows.Given as goal

abbrev pub invariant-objects : goal.invariant-objects
invariant-objects g l = record {
  can : (goal.iterator-objects g).can_next l.said-iterator;
  finite : (goal.iterator-objects g).is_finite l.said-iterator;
  segment : l.said-iterator.segment ≡ l.segment;
  told : IsTold l.segment.cut.bytes (λ (d : Directory). d.objects) (λ (d : Directory). object_row)
      (g.W.Sink.history l.initial.out) (g.W.Sink.history l.out) l.said-iterator.at;
}
