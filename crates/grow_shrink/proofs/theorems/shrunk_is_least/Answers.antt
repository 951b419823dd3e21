-- The law is the lemma.
use Rattle.grow_shrink.proofs.resizing.Sizes.{shrunk-least}
use Rattle.grow_shrink.proofs.theorems.shrunk_is_least.Goals as goal

pub returns : goal.returns
returns c = shrunk-least
