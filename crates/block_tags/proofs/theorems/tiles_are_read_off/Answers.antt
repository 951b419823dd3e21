use Rattle.block_tags.proofs.tiles.TileLists.{tiles_are_read_off as law}
use Rattle.block_tags.proofs.theorems.tiles_are_read_off.Goals as goal

pub returns : goal.returns
returns c = law
