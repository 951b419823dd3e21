-- One colour changes.
use Rattle.best_fit.proofs.Common.{◌-◌, arith, is_gap_node-GapNode}
use Rattle.best_fit.proofs.gaps.Nodes.{node_at}
use Rattle.best_fit.proofs.gaps.Setters.{gap_may, red_changed, red_cells}
use Rattle.best_fit.proofs.gaps.UnchangedNodes.{same_beside_cells}
use Rattle.best_fit.proofs.heap.nodes.GapTreeNodesMut.set_red.Goals as goal

pub overflow_sub-node : goal.overflow_sub-node
overflow_sub-node c = let w = c.args.self.now.window in
    let d = node_at w c.args.node (is_gap_node-GapNode w c.args.node c.requires) in let low = d.low in omega arith

pub set_red-requires : goal.set_red-requires
set_red-requires c = let w = c.args.self.now.window in let g = is_gap_node-GapNode w c.args.node c.requires in
    let d = node_at w c.args.node g in let low = d.low in
    gap_may w c.args.node (c.args.node - 16) c.args.red g (omega arith)

pub returns-clause-cells : goal.returns-clause-cells
returns-clause-cells c =
    let w = c.args.self.now.window in let g = is_gap_node-GapNode w c.args.node c.requires in
    let low = (node_at w c.args.node g).low in
    red_cells w c.set_red.new.window c.args.node (c.args.node - 16) c.args.red g (omega arith)
    (record { tags = c.set_red.ensures.tags; frame = c.set_red.ensures.frame })

pub returns-clause-keeper : goal.returns-clause-keeper
returns-clause-keeper c =
    let w = c.args.self.now.window in let g = is_gap_node-GapNode w c.args.node c.requires in
    let low = (node_at w c.args.node g).low in
    let changed = red_changed w c.set_red.new.window c.args.node (c.args.node - 16) c.args.red g (omega arith)
    (record { tags = c.set_red.ensures.tags; frame = c.set_red.ensures.frame }) in
    same_beside_cells c.args.self.now (record { window = c.set_red.new.window }) c.args.node g changed
