-- One link changes.
use Rattle.best_fit.proofs.Common.{is_gap_node-GapNode}
use Rattle.best_fit.proofs.gaps.Setters.{target_whole, link_fits, left_changed, left_cells}
use Rattle.best_fit.proofs.gaps.UnchangedNodes.{same_beside_cells}
use Rattle.best_fit.proofs.heap.nodes.GapTreeNodesMut.set_left.Goals as goal

pub set_link-requires-clause-aligned : goal.set_link-requires-clause-aligned
set_link-requires-clause-aligned c = (link_fits c.args.self.now.window c.args.node c.requires.node).left_whole

pub set_link-requires-clause-in_bounds : goal.set_link-requires-clause-in_bounds
set_link-requires-clause-in_bounds c = (link_fits c.args.self.now.window c.args.node c.requires.node).left_inside

pub set_link-requires-clause-target : goal.set_link-requires-clause-target
set_link-requires-clause-target c = target_whole c.args.self.now.window c.args.to c.requires.target

pub returns-clause-cells : goal.returns-clause-cells
returns-clause-cells c =
    let said = c.set_link.ensures in
    left_cells c.args.self.now.window c.set_link.new.window c.args.node c.args.to
    (is_gap_node-GapNode c.args.self.now.window c.args.node c.requires.node) c.requires.target said.link_target
    said.len said.place said.frame

pub returns-clause-keeper : goal.returns-clause-keeper
returns-clause-keeper c =
    let said = c.set_link.ensures in let g = is_gap_node-GapNode c.args.self.now.window c.args.node c.requires.node in
    same_beside_cells c.args.self.now (record { window = c.set_link.new.window }) c.args.node g
    (left_changed c.args.self.now.window c.set_link.new.window c.args.node c.args.to g c.requires.target
    said.link_target
    said.len said.place said.frame)
