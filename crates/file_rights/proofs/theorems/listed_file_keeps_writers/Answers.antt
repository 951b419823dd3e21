use Rattle.file_rights.proofs.theorems.Made.{listed_file_keeps_writers}
use Rattle.file_rights.proofs.theorems.listed_file_keeps_writers.Goals as goal

pub returns : goal.returns
returns c = listed_file_keeps_writers
