use Rattle.segment_dump.proofs.objects.put_named.Given as goal
use Rattle.segment_dump.proofs.Common.{named_objects, WritesOf, parts_until}
use Rattle.segment_dump.proofs.{dumping.Sections.object_at_place, texts.Parts.well}

abbrev pub invariant-names : goal.invariant-names
invariant-names g l =
    WritesOf l.segment (g.W.Sink.history l.initial.out) (g.W.Sink.history l.out) well (λ d.
    parts_until (object_at_place (g.T.ObjectWriter.text l.initial.telling) named_objects d) l.index)
