-- The colour is that of the tile.
use Rattle.best_fit.proofs.Common.{◌-◌, sym, ap, ◌∙◌, arith, Tile, Cell, cells_at, is_gap_node-GapNode}
use Rattle.best_fit.proofs.gaps.Nodes.{node_at, node_tile, node_read, node_colour}
use Rattle.best_fit.proofs.heap.nodes.GapTreeNodes.red.Goals as goal

pub overflow_sub-node : goal.overflow_sub-node
overflow_sub-node c = let w = c.args.self.now.window in
    let d = node_at w c.args.node (is_gap_node-GapNode w c.args.node c.requires) in let low = d.low in omega arith

pub tile_at-requires : goal.tile_at-requires
tile_at-requires c = let w = c.args.self.now.window in
    let d = node_at w c.args.node (is_gap_node-GapNode w c.args.node c.requires) in
    node_tile w c.args.node (c.args.node - 16) d (omega arith)

pub returns : goal.returns
returns c =
    let w = c.args.self.now.window in let d = node_at w c.args.node (is_gap_node-GapNode w c.args.node c.requires) in
    ap (λ (t : Tile). t.red) (node_read w c.args.node (c.args.node - 16) d (omega arith)
    c.tile_at.result c.tile_at.ensures)
    ∙ sym (node_colour w c.args.node d) ∙ ap (λ (x : Cell). x.red) (sym (cells_at w c.args.node c.requires))
