use Rattle.segment_log.proofs.log_kinds.Names.{gate_writes_keep_name}
use Rattle.segment_log.proofs.log_kinds.gate_writes_keep_name.Goals as goal

pub returns : goal.returns
returns c = gate_writes_keep_name
