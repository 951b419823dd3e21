use Rattle.segment_log.proofs.log_kinds.Telling.{no_gate_is_foreign}
use Rattle.segment_log.proofs.log_kinds.no_gate_is_foreign.Goals as goal

pub returns : goal.returns
returns c = no_gate_is_foreign
