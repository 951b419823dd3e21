use Rattle.segment_log.proofs.theorems.Found.{commit_finds_one}
use Rattle.segment_log.proofs.theorems.commit_finds_one.Goals as goal

pub returns : goal.returns
returns c = commit_finds_one
