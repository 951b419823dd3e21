use Rattle.image_check.proofs.Common.{arith, ◌∙◌}
use Rattle.image_check.proofs.reading.Fronts.{half_word-part}
use Rattle.image_check.proofs.versions.version_in.Goals as goal

pub returns : goal.returns
returns c = c.from.ensures ∙ c.read_u32.ensures ∙ half_word-part c.args.front.now 8 (omega arith)
