-- The law is the lemma.
use Rattle.best_fit.proofs.extents.Maximal.{gaps_are_maximal}
use Rattle.best_fit.proofs.theorems.gaps_are_maximal.Goals as goal

pub returns : goal.returns
returns c = gaps_are_maximal
