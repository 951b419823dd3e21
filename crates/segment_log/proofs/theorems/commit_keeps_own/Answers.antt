use Rattle.segment_log.proofs.tags.Owned.{commit_keeps_own}
use Rattle.segment_log.proofs.theorems.commit_keeps_own.Goals as goal

pub returns : goal.returns
returns c = commit_keeps_own
