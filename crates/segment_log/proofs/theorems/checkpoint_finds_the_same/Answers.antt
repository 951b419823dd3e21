use Rattle.segment_log.proofs.theorems.Found.{checkpoint_finds_the_same}
use Rattle.segment_log.proofs.theorems.checkpoint_finds_the_same.Goals as goal

pub returns : goal.returns
returns c = checkpoint_finds_the_same
