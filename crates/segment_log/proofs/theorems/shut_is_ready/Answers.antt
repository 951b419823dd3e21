use Rattle.segment_log.proofs.theorems.Found.{shut_is_ready}
use Rattle.segment_log.proofs.theorems.shut_is_ready.Goals as goal

pub returns : goal.returns
returns c = shut_is_ready
