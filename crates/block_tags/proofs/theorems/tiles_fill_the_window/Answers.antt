use Rattle.block_tags.proofs.tiles.TileLists.{tiles_fill_the_window as law}
use Rattle.block_tags.proofs.theorems.tiles_fill_the_window.Goals as goal

pub returns : goal.returns
returns c = law
