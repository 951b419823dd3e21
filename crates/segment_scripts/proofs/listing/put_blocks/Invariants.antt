use Rattle.best_fit.specs.Extents.{spans}
use Rattle.segment_manager.specs.Calls.{IsTileOfIndex}
use Rattle.segment_manager.specs.Directory.{live}
use Rattle.segment_manager.specs.State.{DenotesCurrent}
use Rattle.segment_manager.proofs.PartLaws.{well}
use Rattle.segment_scripts.specs.Answer.{block_tokens}
use Rattle.segment_scripts.specs.Parts.{parts_until}
use Rattle.segment_scripts.specs.Writing.{WritesFor}
use Rattle.segment_scripts.proofs.listing.Lines.{line_part}
use Rattle.segment_scripts.proofs.listing.put_blocks.Given as goal

abbrev pub invariant-tiles : goal.invariant-tiles
invariant-tiles g l = record {
  next : IsTileOfIndex l.segment l.counter l.ahead;
  told : WritesFor (g.W.Sink.history l.initial.out) (g.W.Sink.history l.out) well
      (DenotesCurrent l.segment.cut.bytes) (λ d. parts_until (line_part block_tokens (spans (live d))) l.counter);
}
