use Rattle.std.proofs.Common.{◌∙◌, sym, ap, Some, arith}
use Rattle.block_tags.specs.declared.tile.Tile.{Tile}
use Rattle.block_tags.proofs.tiles.TagsSayTiles.{fits_in, previous_none, previous_found}
use Rattle.block_tags.proofs.reading.previous.Goals as goal

pub read_u64-before-requires : goal.read_u64-before-requires
read_u64-before-requires c = let f = fits_in _ _ _ _ c.requires.said c.requires.stands in omega arith

pub overflow_sub-at : goal.overflow_sub-at
overflow_sub-at c = let p = previous_found _ _ c.requires _ c.read_u64-before.ensures (omega arith) c.requires.tiles
    c.requires.said in omega arith

pub tile_there-requires : goal.tile_there-requires
tile_there-requires c =
    let f = fits_in _ _ _ _ c.requires.said c.requires.stands in
    record { max_size = omega arith; in_bounds = omega arith }

pub returns-then-before-eq0 : goal.returns-then-before-eq0
returns-then-before-eq0 c = λ ts said.
    previous_none _ _ c.requires _ c.read_u64-before.ensures c.if-before-eq0.true ts said

pub returns-else-before-eq0 : goal.returns-else-before-eq0
returns-else-before-eq0 c = λ ts said.
    let p = previous_found _ _ c.requires _ c.read_u64-before.ensures (omega arith) ts said in
    ap (λ (t : Tile). Some t) c.tile_there.ensures ∙ sym p.is
