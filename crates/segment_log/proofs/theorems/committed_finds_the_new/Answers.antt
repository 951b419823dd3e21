use Rattle.segment_log.proofs.theorems.Found.{committed_finds_the_new}
use Rattle.segment_log.proofs.theorems.committed_finds_the_new.Goals as goal

pub returns : goal.returns
returns c = committed_finds_the_new
