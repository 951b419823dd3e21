use Rattle.segment_manager.specs.Directory.{unique_objects}
use Rattle.segment_manager.specs.State.{DenotesCurrent}
use Rattle.segment_manager.proofs.PartLaws.{well}
use Rattle.segment_scripts.specs.Answer.{entry_tokens}
use Rattle.segment_scripts.specs.Parts.{parts_until}
use Rattle.segment_scripts.specs.Writing.{WritesFor}
use Rattle.segment_scripts.proofs.listing.Lines.{line_part}
use Rattle.segment_scripts.proofs.telling.put_kinds.Given as goal

abbrev pub invariant-kinds : goal.invariant-kinds
invariant-kinds g l =
    WritesFor (g.W.Sink.history l.initial.out) (g.W.Sink.history l.out) well (DenotesCurrent l.segment.cut.bytes)
    (λ d. parts_until (line_part entry_tokens (unique_objects d)) l.index)
