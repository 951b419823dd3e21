use Rattle.block_tags.proofs.tiles.TileLists.{last_tile_ends_list as law}
use Rattle.block_tags.proofs.theorems.last_tile_ends_list.Goals as goal

pub returns : goal.returns
returns c = law
