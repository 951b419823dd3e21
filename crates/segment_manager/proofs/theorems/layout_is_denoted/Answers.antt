-- The format that is written is the current one.
use Rattle.segment_manager.proofs.Common.{refl, current}
use Rattle.segment_manager.proofs.theorems.layout_is_denoted.Goals as goal

pub returns-clause-format : goal.returns-clause-format
unfolding current
returns-clause-format c = refl
