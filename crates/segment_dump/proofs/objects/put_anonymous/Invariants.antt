-- What has gone out is the text of the anonymous ones among the objects that came.
use Rattle.segment_dump.proofs.objects.put_anonymous.Given as goal
use Rattle.segment_dump.proofs.Common.{◌≡◌, Directory, WritesOf, where_anonymous, parts_until}
use Rattle.segment_dump.proofs.{texts.Parts.well, dumping.Sections.object_at_place}

abbrev pub invariant-objects : goal.invariant-objects
invariant-objects g l = record {
  can : (goal.iterator-objects g).can_next l.said-iterator;
  finite : (goal.iterator-objects g).is_finite l.said-iterator;
  segment : l.said-iterator.segment ≡ l.segment;
  told : WritesOf l.segment (g.W.Sink.history l.initial.out) (g.W.Sink.history l.out) well
      (λ d. parts_until (object_at_place (where_anonymous (g.T.ObjectWriter.text l.initial.telling))
      (λ (d : Directory). d.objects) d) l.said-iterator.at);
}
