use Rattle.block_tags.proofs.tiles.TileLists.{one_tile_at_an_offset as law}
use Rattle.block_tags.proofs.theorems.one_tile_at_an_offset.Goals as goal

pub returns : goal.returns
returns c = law
