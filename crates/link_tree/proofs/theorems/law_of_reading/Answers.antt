use Rattle.link_tree.proofs.checking.ReadOff.{reads_off}
use Rattle.link_tree.proofs.theorems.law_of_reading.Goals as goal

pub returns : goal.returns
returns c = reads_off
