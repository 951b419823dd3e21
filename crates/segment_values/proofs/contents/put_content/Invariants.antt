-- This many elements have gone out.
use Rattle.seg_types.specs.Names.{ByHandle}
use Rattle.segment_manager.specs.{Parts.parts_until, State.DenotesCurrent}
use Rattle.segment_manager.proofs.PartLaws.{well}
use Rattle.segment_values.specs.{Layouts.part_at, Writing.WritesFor}
use Rattle.segment_values.proofs.contents.put_content.Given as goal

abbrev pub invariant-elements : goal.invariant-elements
invariant-elements g l =
    WritesFor (g.W.Sink.history l.initial.out) (g.W.Sink.history l.out) well (DenotesCurrent l.segment.cut.bytes)
    (λ d. parts_until (part_at (g.L.Layout.spelling l.initial.layout) d (ByHandle l.object.handle)) l.index)
