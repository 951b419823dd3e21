-- The law is the lemma.
use Rattle.best_fit.proofs.lending.Payloads.{loans_write_one_block}
use Rattle.best_fit.proofs.theorems.loans_write_one_block.Goals as goal

pub returns : goal.returns
returns c = loans_write_one_block
