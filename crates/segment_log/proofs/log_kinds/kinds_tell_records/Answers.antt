use Rattle.segment_log.proofs.log_kinds.Telling.{kinds_tell_records}
use Rattle.segment_log.proofs.log_kinds.kinds_tell_records.Goals as goal

pub returns : goal.returns
returns c = kinds_tell_records
