use Rattle.block_tags.proofs.tiles.TileLists.{tile_is_read_off as law}
use Rattle.block_tags.proofs.theorems.tile_is_read_off.Goals as goal

pub returns : goal.returns
returns c = law
