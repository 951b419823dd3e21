-- The lengths are the lengths of the two tiles.
use Rattle.best_fit.proofs.Common.{◌-◌, arith, gaps_in, len_in, is_gap_node-GapNode}
use Rattle.best_fit.proofs.gaps.Comparisons.{as_long, longer, shorter}
use Rattle.best_fit.proofs.gaps.Nodes.{len_read, node_at, node_tile}
use Rattle.best_fit.proofs.heap.nodes.GapTreeNodes.precedes.Goals as goal

pub overflow_sub-a : goal.overflow_sub-a
overflow_sub-a c = let w = c.args.self.now.window in
    let d = node_at w c.args.a (is_gap_node-GapNode w c.args.a c.requires.first) in let low = d.low in omega arith

pub tile_at-first-requires : goal.tile_at-first-requires
tile_at-first-requires c = let w = c.args.self.now.window in
    let d = node_at w c.args.a (is_gap_node-GapNode w c.args.a c.requires.first) in
    node_tile w c.args.a (c.args.a - 16) d (omega arith)

pub overflow_sub-b : goal.overflow_sub-b
overflow_sub-b c = let w = c.args.self.now.window in
    let d = node_at w c.args.b (is_gap_node-GapNode w c.args.b c.requires.second) in let low = d.low in omega arith

pub tile_at-second-requires : goal.tile_at-second-requires
tile_at-second-requires c = let w = c.args.self.now.window in
    let d = node_at w c.args.b (is_gap_node-GapNode w c.args.b c.requires.second) in
    node_tile w c.args.b (c.args.b - 16) d (omega arith)

pub returns-then-first-second : goal.returns-then-first-second
returns-then-first-second c =
    let w = c.args.self.now.window in let d = node_at w c.args.a (is_gap_node-GapNode w c.args.a c.requires.first) in
    let f = node_at w c.args.b (is_gap_node-GapNode w c.args.b c.requires.second) in
    shorter (len_in (gaps_in w) c.args.a) (len_in (gaps_in w) c.args.b) c.args.a c.args.b c.tile_at-first.result.len
    c.tile_at-second.result.len (len_read w c.args.a d c.tile_at-first.result c.tile_at-first.ensures)
    (len_read w c.args.b f c.tile_at-second.result c.tile_at-second.ensures) (omega arith)

pub returns-then-first-second-2 : goal.returns-then-first-second-2
returns-then-first-second-2 c =
    let w = c.args.self.now.window in let d = node_at w c.args.a (is_gap_node-GapNode w c.args.a c.requires.first) in
    let f = node_at w c.args.b (is_gap_node-GapNode w c.args.b c.requires.second) in
    as_long (len_in (gaps_in w) c.args.a) (len_in (gaps_in w) c.args.b) c.args.a c.args.b c.tile_at-first.result.len
    c.tile_at-second.result.len (len_read w c.args.a d c.tile_at-first.result c.tile_at-first.ensures)
    (len_read w c.args.b f c.tile_at-second.result c.tile_at-second.ensures) (omega arith) (omega arith)

pub returns-else-first-second-2 : goal.returns-else-first-second-2
returns-else-first-second-2 c =
    let w = c.args.self.now.window in let d = node_at w c.args.a (is_gap_node-GapNode w c.args.a c.requires.first) in
    let f = node_at w c.args.b (is_gap_node-GapNode w c.args.b c.requires.second) in
    longer (len_in (gaps_in w) c.args.a) (len_in (gaps_in w) c.args.b) c.args.a c.args.b c.tile_at-first.result.len
    c.tile_at-second.result.len (len_read w c.args.a d c.tile_at-first.result c.tile_at-first.ensures)
    (len_read w c.args.b f c.tile_at-second.result c.tile_at-second.ensures) (omega arith) c.if-first-second-2.false
