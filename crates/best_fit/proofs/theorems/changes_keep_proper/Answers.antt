-- The law is the lemma.
use Rattle.best_fit.proofs.extents.Changes.{all_keep_proper}
use Rattle.best_fit.proofs.theorems.changes_keep_proper.Goals as goal

pub returns : goal.returns
returns c = all_keep_proper
