use Rattle.segment_log.proofs.theorems.Found.{checkpointed_is_ready}
use Rattle.segment_log.proofs.theorems.checkpointed_is_ready.Goals as goal

pub returns : goal.returns
returns c = checkpointed_is_ready
