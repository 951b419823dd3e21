use Rattle.std.proofs.Common.{rules, inr}
use Rattle.segment_commands.proofs.changing.Outcome.{segment_written}
use Rattle.segment_commands.proofs.creating.create.Goals as goal

pub returns : goal.returns
returns g c = rw c.written.ensures (inr (record {
  found = c.path_status.result;
  is = search rules;
  looked = c.path_status.new.self;
  asked = c.path_status.ensures;
  goes = inr (segment_written _ _ _ _ _ _ c.in_ok-segment.segment c.in_ok-segment.ensures c.write_made.result
      c.write_made.ensures);
}))
