use Rattle.segment_log.proofs.log_kinds.Names.{writes_behind_keep_name}
use Rattle.segment_log.proofs.log_kinds.writes_behind_keep_name.Goals as goal

pub returns : goal.returns
returns c = writes_behind_keep_name
