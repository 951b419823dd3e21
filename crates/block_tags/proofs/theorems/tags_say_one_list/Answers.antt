-- The law is the lemma.
use Rattle.block_tags.proofs.tiles.ReadOff.{say_one_list}
use Rattle.block_tags.proofs.theorems.tags_say_one_list.Goals as goal

pub returns : goal.returns
returns c = say_one_list
