use Rattle.segment_log.proofs.tags.Owned.{checkpoint_keeps_own}
use Rattle.segment_log.proofs.theorems.checkpoint_keeps_own.Goals as goal

pub returns : goal.returns
returns c = checkpoint_keeps_own
