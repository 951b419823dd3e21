-- One link changes.
use Rattle.best_fit.proofs.Common.{arith, is_gap_node-GapNode}
use Rattle.best_fit.proofs.gaps.Nodes.{node_at}
use Rattle.best_fit.proofs.gaps.Setters.{target_whole, link_fits, right_changed, right_cells}
use Rattle.best_fit.proofs.gaps.UnchangedNodes.{same_beside_cells}
use Rattle.best_fit.proofs.heap.nodes.GapTreeNodesMut.set_right.Goals as goal

pub set_link-requires-clause-aligned : goal.set_link-requires-clause-aligned
set_link-requires-clause-aligned c = (link_fits c.args.self.now.window c.args.node c.requires.node).right_whole

pub set_link-requires-clause-in_bounds : goal.set_link-requires-clause-in_bounds
set_link-requires-clause-in_bounds c = (link_fits c.args.self.now.window c.args.node c.requires.node).right_inside

pub set_link-requires-clause-target : goal.set_link-requires-clause-target
set_link-requires-clause-target c = target_whole c.args.self.now.window c.args.to c.requires.target

pub returns-clause-cells : goal.returns-clause-cells
returns-clause-cells c =
    let said = c.set_link.ensures in
    right_cells c.args.self.now.window c.set_link.new.window c.args.node c.args.to
    (is_gap_node-GapNode c.args.self.now.window c.args.node c.requires.node) c.requires.target said.link_target
    said.len said.place said.frame

pub returns-clause-keeper : goal.returns-clause-keeper
returns-clause-keeper c =
    let said = c.set_link.ensures in let g = is_gap_node-GapNode c.args.self.now.window c.args.node c.requires.node in
    same_beside_cells c.args.self.now (record { window = c.set_link.new.window }) c.args.node g
    (right_changed c.args.self.now.window c.set_link.new.window c.args.node c.args.to g c.requires.target
    said.link_target
    said.len said.place said.frame)

pub overflow_add-node : goal.overflow_add-node
overflow_add-node c = let d = node_at c.args.self.now.window c.args.node
    (is_gap_node-GapNode c.args.self.now.window c.args.node c.requires.node) in let long = d.long in
    let ends = d.ends in let size = d.size in omega arith
