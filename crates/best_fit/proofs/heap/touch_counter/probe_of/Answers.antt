-- The length is that of the tile before the payload.
use Rattle.best_fit.proofs.Common.{◌-◌, ap, arith, is_gap_node-GapNode}
use Rattle.best_fit.specs.declared.heap.nodes.GapProbe.{GapProbe}
use Rattle.best_fit.proofs.gaps.Nodes.{NodeAt, len_read, node_at, node_tile}
use Rattle.best_fit.proofs.heap.touch_counter.probe_of.Goals.{Start}
use Rattle.best_fit.proofs.heap.touch_counter.probe_of.Goals as goal

-- the place of the gap
there : (c : Start) → NodeAt c.args.gaps.now.window c.args.node
there c = let w = c.args.gaps.now.window in node_at w c.args.node (is_gap_node-GapNode w c.args.node c.requires)

pub overflow_sub-node : goal.overflow_sub-node
overflow_sub-node c = let low = (there (goal.at.overflow_sub-node c).Start).low in omega arith

pub tile_at-len-requires : goal.tile_at-len-requires
tile_at-len-requires c =
    let d = there (goal.at.tile_at-len-requires c).Start in
    node_tile c.args.gaps.now.window c.args.node (c.args.node - 16) d (omega arith)

pub returns : goal.returns
returns c =
    let w = c.args.gaps.now.window in
    let d = node_at w c.args.node (is_gap_node-GapNode w c.args.node c.requires) in
    ap (λ k. let p : GapProbe = record { len = k; from = c.args.node } in p)
    (len_read w c.args.node d c.tile_at-len.result c.tile_at-len.ensures)
