use Rattle.block_tags.proofs.tiles.TileLists.{good_tags_say_tiles as law}
use Rattle.block_tags.proofs.theorems.good_tags_say_tiles.Goals as goal

pub returns : goal.returns
returns c = law
