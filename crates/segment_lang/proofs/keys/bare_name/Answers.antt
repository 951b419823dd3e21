use Rattle.std.proofs.Common.{arith}
use Rattle.std.proofs.lemmas.Grind.{common_steps}
use Rattle.raw_region.specs.Format.{current}
use Rattle.segment_lang.proofs.keys.bare_name.Goals as goal

pub returns : goal.returns
unfolding current
returns c = grind (arith, common_steps)
