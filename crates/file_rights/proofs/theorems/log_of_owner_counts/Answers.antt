use Rattle.file_rights.proofs.theorems.Made.{log_of_owner_counts}
use Rattle.file_rights.proofs.theorems.log_of_owner_counts.Goals as goal

pub returns : goal.returns
returns c = log_of_owner_counts
