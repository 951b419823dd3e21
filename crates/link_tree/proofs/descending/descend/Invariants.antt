use Rattle.std.proofs.Common.{◌≡◌, ◌≤◌, ◌-◌, ◌^◌, true}
use Rattle.link_tree.specs.Tree.{Tree, IsSearchTree}
use Rattle.link_tree.specs.Nodes.{leads}
use Rattle.link_tree.proofs.searching.PathWalk.{Seeking}
use Rattle.link_tree.proofs.descending.descend.Given as goal

abbrev pub invariant-loop-link : goal.invariant-loop-link
invariant-loop-link g l = record {
  good : leads (g.N.Nodes.is_node l.nodes.now) l.link ≡ true;
  room : l.visits.steps ≤ 80;
  seeks : (t : Tree) → IsSearchTree (g.N.Nodes.order l.nodes.now) (g.N.Nodes.cells l.nodes.now) l.fn.root t
      → Seeking g.K.PathFold.passed l.fn.start (g.N.Nodes.order l.nodes.now) (g.N.Nodes.cells l.nodes.now)
      (g.N.Nodes.before l.nodes.now l.probe) t l.link l.visits.at l.folded l.visits.steps;
}

abbrev pub decreases-loop-link : goal.decreases-loop-link
decreases-loop-link g l = 2 ^ 64 - l.visits.steps
