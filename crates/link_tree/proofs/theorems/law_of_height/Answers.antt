use Rattle.link_tree.proofs.trees.Heights.{bounds_height}
use Rattle.link_tree.proofs.theorems.law_of_height.Goals as goal

pub returns : goal.returns
returns c = bounds_height
