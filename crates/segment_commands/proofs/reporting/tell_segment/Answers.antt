use Rattle.std.proofs.Common.{inr}
use Rattle.segment_commands.proofs.changing.Outcome.{told, write_fault}
use Rattle.segment_commands.proofs.reporting.tell_segment.Goals as goal

pub returns : goal.returns
returns g c = rw c.written.ensures (inr (record {
  segment = c.in_ok-segment.segment;
  opens = c.in_ok-segment.ensures;
  tells = λ d stands. told _ _ c.tell_report.result (c.tell_report.ensures d stands);
  answer = write_fault c.tell_report.result;
}))
