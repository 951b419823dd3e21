-- The law is the lemma.
use Rattle.best_fit.proofs.extents.Inverse.{giving_back_restores}
use Rattle.best_fit.proofs.theorems.giving_back_restores.Goals as goal

pub returns : goal.returns
returns c = giving_back_restores
