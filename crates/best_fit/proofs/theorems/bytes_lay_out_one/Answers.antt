-- The law is the lemma.
use Rattle.best_fit.proofs.tags.OneLiveSet.{lay_out_one}
use Rattle.best_fit.proofs.theorems.bytes_lay_out_one.Goals as goal

pub returns : goal.returns
returns c = lay_out_one
