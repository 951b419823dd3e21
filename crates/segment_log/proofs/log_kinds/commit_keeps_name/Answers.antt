use Rattle.segment_log.proofs.log_kinds.Names.{commit_keeps_name}
use Rattle.segment_log.proofs.log_kinds.commit_keeps_name.Goals as goal

pub returns : goal.returns
returns c = commit_keeps_name
