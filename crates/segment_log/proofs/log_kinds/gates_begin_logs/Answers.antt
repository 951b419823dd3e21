use Rattle.segment_log.proofs.log_kinds.Names.{gates_begin_logs}
use Rattle.segment_log.proofs.log_kinds.gates_begin_logs.Goals as goal

pub returns : goal.returns
returns c = gates_begin_logs
