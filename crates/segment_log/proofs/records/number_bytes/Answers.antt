use Rattle.std.proofs.Common.{rules}
use Rattle.segment_log.specs.Records.{number_bytes}
use Rattle.segment_log.proofs.records.number_bytes.Goals as goal

pub returns : goal.returns
unfolding number_bytes
returns c = search rules
