use Rattle.segment_log.proofs.log_kinds.Names.{committed_has_records}
use Rattle.segment_log.proofs.log_kinds.committed_has_records.Goals as goal

pub returns : goal.returns
returns c = committed_has_records
