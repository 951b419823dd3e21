use Rattle.std.proofs.Common.{◌≡◌, true}
use Rattle.link_tree.specs.Nodes.{leads}
use Rattle.layer_tests.proofs.link_tree_tests.fill_and_empty.Given as goal

abbrev pub invariant-loop-i : goal.invariant-loop-i
invariant-loop-i g l = leads (g.N.Nodes.is_node l.nodes) l.root ≡ true

abbrev pub invariant-loop-i-2 : goal.invariant-loop-i-2
invariant-loop-i-2 g l = leads (g.N.Nodes.is_node l.nodes) l.root ≡ true
