use Rattle.file_protocol.proofs.Changing.{nothing_of_others_changes}
use Rattle.file_protocol.proofs.theorems.nothing_of_others_changes.Goals as goal

pub returns : goal.returns
returns c = nothing_of_others_changes
