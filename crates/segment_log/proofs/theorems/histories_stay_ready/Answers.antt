use Rattle.segment_log.proofs.theorems.Lasting.{histories_stay_ready}
use Rattle.segment_log.proofs.theorems.histories_stay_ready.Goals as goal

pub returns : goal.returns
returns c = histories_stay_ready
