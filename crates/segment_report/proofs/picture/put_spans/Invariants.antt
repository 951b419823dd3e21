use Rattle.best_fit.specs.Extents.{spans}
use Rattle.segment_manager.specs.Calls.{IsTileOfIndex}
use Rattle.segment_manager.specs.Directory.{Directory, live}
use Rattle.segment_report.specs.Picture.{span_text}
use Rattle.segment_report.proofs.page.Output.{IsTold}
use Rattle.segment_report.proofs.picture.put_spans.Given as goal

abbrev pub invariant-tiles : goal.invariant-tiles
invariant-tiles g l = record {
  next : IsTileOfIndex l.segment l.counter l.ahead;
  told : IsTold l.segment.cut.bytes (λ (d : Directory).
      spans (live d)) span_text (g.W.Sink.history l.initial.out) (g.W.Sink.history l.out) l.counter;
}
