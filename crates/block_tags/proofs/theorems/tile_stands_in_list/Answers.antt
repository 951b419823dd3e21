use Rattle.block_tags.proofs.tiles.TileLists.{tile_stands_in_list as law}
use Rattle.block_tags.proofs.theorems.tile_stands_in_list.Goals as goal

pub returns : goal.returns
returns c = law
