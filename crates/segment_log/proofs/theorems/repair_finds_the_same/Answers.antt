use Rattle.segment_log.proofs.theorems.Found.{repair_finds_the_same}
use Rattle.segment_log.proofs.theorems.repair_finds_the_same.Goals as goal

pub returns : goal.returns
returns c = repair_finds_the_same
