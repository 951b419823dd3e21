-- A segment with more objects is not drawn, and another is.
use Rattle.std.proofs.Common.{inl, inr, length, refl, sym, ◌∙◌}
use Rattle.segment_commands.proofs.changing.Outcome.{told, write_fault}
use Rattle.segment_commands.proofs.drawing.Counts.{are_few, are_many}
use Rattle.segment_commands.proofs.drawing.tell_few.Goals as goal

pub returns-then-has_more_objects : goal.returns-then-has_more_objects
returns-then-has_more_objects g c = inr (inl (record {
  segment = c.in_ok-segment.segment;
  opens = c.in_ok-segment.ensures;
  many = λ d stands.
      are_many (length d.objects) (sym c.if-has_more_objects.true ∙ c.has_more_objects.ensures d stands);
  silent = refl;
  refused = refl;
}))

pub returns : goal.returns
returns g c = rw c.written.ensures (inr (inr (record {
  reports = record {
    segment = c.in_ok-segment.segment;
    opens = c.in_ok-segment.ensures;
    tells = λ d stands. told _ _ c.tell_report.result (c.tell_report.ensures d stands);
    answer = write_fault c.tell_report.result;
  };
  few = λ d stands.
      are_few (length d.objects) (sym c.if-has_more_objects.false ∙ c.has_more_objects.ensures d stands);
})))
