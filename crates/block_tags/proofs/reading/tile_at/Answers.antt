use Rattle.std.proofs.Common.{arith}
use Rattle.block_tags.proofs.tiles.TagsSayTiles.{fits_in, stands_in}
use Rattle.block_tags.proofs.reading.tile_at.Goals as goal

pub tile_there-requires : goal.tile_there-requires
tile_there-requires c = let f = fits_in _ _ _ _ c.requires.said c.requires.stands
    in record { max_size = omega arith; in_bounds = omega arith }

pub returns : goal.returns
returns c = stands_in _ _ c.requires _ c.tile_there.ensures
