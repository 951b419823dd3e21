use Rattle.std.proofs.Common.{◌∙◌, sym, ap, Some, length, arith}
use Rattle.block_tags.specs.declared.tile.Tile.{Tile}
use Rattle.block_tags.proofs.tiles.TagsSayTiles.{legal}
use Rattle.block_tags.proofs.tiles.LastTile.{last_none, last_found}
use Rattle.block_tags.proofs.reading.last.Goals as goal

pub overflow_sub-end : goal.overflow_sub-end
overflow_sub-end c = let n = legal (length c.args.window.now.bytes) c.requires.said.size in let low = n.low
    in let s = c.size-end.ensures in omega arith

pub read_u64-before-requires : goal.read_u64-before-requires
read_u64-before-requires c = let n = legal (length c.args.window.now.bytes) c.requires.said.size in let low = n.low
    in let s = c.size-end.ensures in omega arith

pub overflow_sub-end-else-before-eq0 : goal.overflow_sub-end-else-before-eq0
overflow_sub-end-else-before-eq0 c =
    let p = last_found c.args.window.now c.size-end.result c.size-end.ensures c.read_u64-before.result
    c.read_u64-before.ensures (omega arith) c.requires.tiles c.requires.said in
    let low = p.low in omega arith

pub tile_there-requires : goal.tile_there-requires
tile_there-requires c =
    let n = legal (length c.args.window.now.bytes) c.requires.said.size in let low = n.low in let high = n.high
    in let s = c.size-end.ensures in
    let p = last_found c.args.window.now c.size-end.result c.size-end.ensures c.read_u64-before.result
    c.read_u64-before.ensures (omega arith) c.requires.tiles c.requires.said in
    let long = p.long in
    record { max_size = omega arith; in_bounds = omega arith }

pub returns-then-before-eq0 : goal.returns-then-before-eq0
returns-then-before-eq0 c = λ ts said.
    last_none c.args.window.now c.size-end.result c.size-end.ensures c.read_u64-before.result
    c.read_u64-before.ensures c.if-before-eq0.true ts said

pub returns-else-before-eq0 : goal.returns-else-before-eq0
returns-else-before-eq0 c = λ ts said.
    let p = last_found c.args.window.now c.size-end.result c.size-end.ensures c.read_u64-before.result
    c.read_u64-before.ensures (omega arith) ts said in
    ap (λ (t : Tile). Some t) c.tile_there.ensures ∙ sym p.is
