-- The length is that of the tile.
use Rattle.best_fit.proofs.Common.{◌≡◌, ◌-◌, refl, arith, gaps_in, len_in, is_gap_node-GapNode}
use Rattle.best_fit.proofs.gaps.Comparisons.{as_long, longer, shorter}
use Rattle.best_fit.proofs.gaps.Nodes.{NodeAt, len_read, node_at, node_tile}
use Rattle.best_fit.proofs.heap.nodes.GapTreeNodes.before_probe.Goals as goal
use Rattle.best_fit.proofs.heap.nodes.GapTreeNodes.before_probe.Goals.{After-tile_at-len, Start}

there : (c : Start) → NodeAt c.args.self.now.window c.args.node
there c = let w = c.args.self.now.window in node_at w c.args.node (is_gap_node-GapNode w c.args.node c.requires)

pub overflow_sub-node : goal.overflow_sub-node
overflow_sub-node c = let low = (there (goal.at.overflow_sub-node c).Start).low in omega arith

pub tile_at-len-requires : goal.tile_at-len-requires
tile_at-len-requires c =
    let d = there (goal.at.tile_at-len-requires c).Start in
    node_tile c.args.self.now.window c.args.node (c.args.node - 16) d (omega arith)

-- the length that is read is the gap's
read : (c : After-tile_at-len) → c.tile_at-len.result.len ≡ len_in (gaps_in c.args.self.now.window) c.args.node
read c =
    let w = c.args.self.now.window in
    len_read w c.args.node (node_at w c.args.node (is_gap_node-GapNode w c.args.node c.requires)) c.tile_at-len.result
    c.tile_at-len.ensures

pub returns-then-len-sought : goal.returns-then-len-sought
returns-then-len-sought c =
    let g = goal.at.returns-then-len-sought c in
    shorter (len_in (gaps_in c.args.self.now.window) c.args.node) c.args.sought.now.len c.args.node
    c.args.sought.now.from c.tile_at-len.result.len c.args.sought.now.len (read g.After-tile_at-len) refl
    (omega arith)

pub returns-then-len-sought-2 : goal.returns-then-len-sought-2
returns-then-len-sought-2 c =
    let g = goal.at.returns-then-len-sought-2 c in
    as_long (len_in (gaps_in c.args.self.now.window) c.args.node) c.args.sought.now.len c.args.node
    c.args.sought.now.from c.tile_at-len.result.len c.args.sought.now.len (read g.After-tile_at-len) refl
    (omega arith) (omega arith)

pub returns-else-len-sought-2 : goal.returns-else-len-sought-2
returns-else-len-sought-2 c =
    let g = goal.at.returns-else-len-sought-2 c in
    longer (len_in (gaps_in c.args.self.now.window) c.args.node) c.args.sought.now.len c.args.node
    c.args.sought.now.from c.tile_at-len.result.len c.args.sought.now.len (read g.After-tile_at-len) refl
    (omega arith) c.if-len-sought-2.false
