use Rattle.segment_lang.proofs.values.Decimals.{numbers_are_decimals}
use Rattle.segment_lang.proofs.theorems.numbers_are_decimals.Goals as goal

pub returns : goal.returns
returns c = numbers_are_decimals
