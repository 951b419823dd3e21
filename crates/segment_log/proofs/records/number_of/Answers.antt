use Rattle.std.proofs.Common.{rules}
use Rattle.segment_log.specs.Records.{number_of}
use Rattle.segment_log.proofs.records.number_of.Goals as goal

pub returns : goal.returns
unfolding number_of
returns c = search rules
