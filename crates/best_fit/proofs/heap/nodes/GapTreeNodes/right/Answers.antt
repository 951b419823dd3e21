-- The link is 8 bytes after the node's beginning.
use Rattle.best_fit.proofs.Common.{sym, ap, ◌∙◌, arith, Cell, cells_at, is_gap_node-GapNode}
use Rattle.best_fit.proofs.gaps.Nodes.{node_at}
use Rattle.best_fit.proofs.heap.nodes.GapTreeNodes.right.Goals as goal

pub load-requires-clause-aligned : goal.load-requires-clause-aligned
load-requires-clause-aligned c = let w = c.args.self.now.window in
    let d = node_at w c.args.node (is_gap_node-GapNode w c.args.node c.requires) in let whole = d.whole in omega arith

pub load-requires-clause-in_bounds : goal.load-requires-clause-in_bounds
load-requires-clause-in_bounds c = let w = c.args.self.now.window in
    let d = node_at w c.args.node (is_gap_node-GapNode w c.args.node c.requires) in let long = d.long in
    let ends = d.ends in omega arith

pub returns : goal.returns
returns c = let w = c.args.self.now.window in c.load.ensures
    ∙ ap (λ (x : Cell). x.right) (sym (cells_at w c.args.node c.requires))

pub overflow_add-node : goal.overflow_add-node
overflow_add-node c = let w = c.args.self.now.window in
    let d = node_at w c.args.node (is_gap_node-GapNode w c.args.node c.requires) in let long = d.long in
    let ends = d.ends in let size = d.size in omega arith
