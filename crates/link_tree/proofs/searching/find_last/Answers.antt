-- The last node is the last one before what all stand before.
use Rattle.std.proofs.Common.{◌∙◌}
use Rattle.link_tree.specs.Tree.{nodes_of}
use Rattle.link_tree.proofs.searching.Neighbours.{last_of_all}
use Rattle.link_tree.proofs.searching.find_last.Goals as goal

pub returns-clause-last : goal.returns-clause-last
returns-clause-last g c = λ t k. c.find_last_before.ensures.last t k ∙ last_of_all (nodes_of t)
