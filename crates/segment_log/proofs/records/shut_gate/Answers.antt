use Rattle.std.proofs.Common.{rules}
use Rattle.segment_log.specs.Records.{shut_gate}
use Rattle.segment_log.proofs.records.shut_gate.Goals as goal

pub returns : goal.returns
unfolding shut_gate
returns c = search rules
