use Rattle.std.proofs.Common.{subst}
use Rattle.segment_manager.specs.State.{IsSegment}
use Rattle.segment_report.proofs.tallies.size_of.Goals as goal

pub returns-clause-denotation : goal.returns-clause-denotation
returns-clause-denotation c = subst IsSegment c.as_bytes-bytes.ensures.bytes c.as_bytes-bytes.ensures.denotation
