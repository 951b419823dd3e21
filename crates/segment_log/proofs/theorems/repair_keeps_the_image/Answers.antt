use Rattle.segment_log.proofs.theorems.Lawful.{repair_keeps_the_image}
use Rattle.segment_log.proofs.theorems.repair_keeps_the_image.Goals as goal

pub returns : goal.returns
returns c = repair_keeps_the_image
