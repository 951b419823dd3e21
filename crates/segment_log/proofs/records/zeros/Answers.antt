use Rattle.std.proofs.Common.{rules}
use Rattle.segment_log.specs.Records.{zeros}
use Rattle.segment_log.proofs.records.zeros.Goals as goal

pub returns : goal.returns
unfolding zeros
returns c = search rules
