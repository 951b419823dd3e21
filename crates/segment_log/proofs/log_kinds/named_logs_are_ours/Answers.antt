use Rattle.segment_log.proofs.log_kinds.Names.{named_logs_are_ours}
use Rattle.segment_log.proofs.log_kinds.named_logs_are_ours.Goals as goal

pub returns : goal.returns
returns c = named_logs_are_ours
