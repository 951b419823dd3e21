use Rattle.block_tags.proofs.tiles.TileLists.{header_is_beside_tags as law}
use Rattle.block_tags.proofs.theorems.header_is_beside_tags.Goals as goal

pub returns : goal.returns
returns c = law
