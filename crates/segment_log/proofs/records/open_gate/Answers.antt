use Rattle.std.proofs.Common.{rules}
use Rattle.segment_log.specs.Records.{open_gate}
use Rattle.segment_log.proofs.records.open_gate.Goals as goal

pub returns : goal.returns
unfolding open_gate
returns c = search rules
