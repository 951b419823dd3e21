use Rattle.file_rights.proofs.theorems.Widest.{new_mode_is_widest}
use Rattle.file_rights.proofs.theorems.new_mode_is_widest.Goals as goal

pub returns : goal.returns
returns c = new_mode_is_widest
