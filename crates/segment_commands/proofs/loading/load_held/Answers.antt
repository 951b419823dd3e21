use Rattle.std.proofs.Common.{inr}
use Rattle.segment_commands.proofs.changing.Outcome.{segment_written}
use Rattle.segment_commands.proofs.loading.load_held.Goals as goal

pub returns-clause-effect : goal.returns-clause-effect
returns-clause-effect g c = rw c.written.ensures (inr (segment_written _ _ _ _ _ _ c.in_ok-segment.segment
    c.in_ok-segment.ensures.effect c.write_image.result c.write_image.ensures))
