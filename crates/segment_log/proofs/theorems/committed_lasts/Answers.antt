use Rattle.segment_log.proofs.theorems.Lawful.{committed_lasts}
use Rattle.segment_log.proofs.theorems.committed_lasts.Goals as goal

pub returns : goal.returns
returns c = committed_lasts
