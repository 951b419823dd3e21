use Rattle.segment_lang.proofs.values.Decimals.{wholes_are_decimals}
use Rattle.segment_lang.proofs.theorems.wholes_are_decimals.Goals as goal

pub returns : goal.returns
returns c = wholes_are_decimals
