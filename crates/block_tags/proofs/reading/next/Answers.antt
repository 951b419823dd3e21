use Rattle.std.proofs.Common.{sym, arith}
use Rattle.block_tags.proofs.tiles.TagsSayTiles.{fits_in, reads, next_some, next_none}
use Rattle.block_tags.proofs.reading.next.Goals as goal

pub overflow_add-behind : goal.overflow_add-behind
overflow_add-behind c = let f = fits_in _ _ _ _ c.requires.said (c.tile_at.ensures c.requires.tiles c.requires.said)
    in omega arith

pub returns-then-behind-size : goal.returns-then-behind-size
returns-then-behind-size c = λ ts said.
    next_some _ _ c.requires _ (sym (reads _ ts _ _ said (c.tile_at.ensures ts said))) ts said (omega arith) _
    c.tile_there.ensures

pub returns-else-behind-size : goal.returns-else-behind-size
returns-else-behind-size c = λ ts said.
    next_none _ _ c.requires _ (sym (reads _ ts _ _ said (c.tile_at.ensures ts said))) ts said (omega arith)
