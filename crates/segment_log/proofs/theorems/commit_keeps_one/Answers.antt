use Rattle.segment_log.proofs.theorems.Lawful.{commit_keeps_one}
use Rattle.segment_log.proofs.theorems.commit_keeps_one.Goals as goal

pub returns : goal.returns
returns c = commit_keeps_one
