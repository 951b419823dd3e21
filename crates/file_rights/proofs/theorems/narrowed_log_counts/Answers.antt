use Rattle.file_rights.proofs.theorems.Made.{narrowed_log_counts}
use Rattle.file_rights.proofs.theorems.narrowed_log_counts.Goals as goal

pub returns : goal.returns
returns c = narrowed_log_counts
