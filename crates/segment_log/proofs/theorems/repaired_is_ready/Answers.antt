use Rattle.segment_log.proofs.theorems.Found.{repaired_is_ready}
use Rattle.segment_log.proofs.theorems.repaired_is_ready.Goals as goal

pub returns : goal.returns
returns c = repaired_is_ready
