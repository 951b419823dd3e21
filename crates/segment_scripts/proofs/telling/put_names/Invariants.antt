use Rattle.std.proofs.Common.{◌∷◌}
use Rattle.segment_lang.specs.Texts.{name_text}
use Rattle.segment_manager.specs.Directory.{Object, named_objects}
use Rattle.segment_manager.specs.State.{DenotesCurrent}
use Rattle.segment_manager.proofs.PartLaws.{well}
use Rattle.segment_scripts.specs.Answer.{entry_tokens}
use Rattle.segment_scripts.specs.Parts.{parts_until}
use Rattle.segment_scripts.specs.Writing.{WritesFor}
use Rattle.segment_scripts.proofs.listing.Lines.{line_part}
use Rattle.segment_scripts.proofs.telling.put_names.Given as goal

abbrev pub invariant-names : goal.invariant-names
invariant-names g l =
    WritesFor (g.W.Sink.history l.initial.out) (g.W.Sink.history l.out) well (DenotesCurrent l.segment.cut.bytes)
    (λ d. parts_until (line_part (λ (o : Object). name_text o.name ∷ entry_tokens o) (named_objects d)) l.index)
