use Rattle.segment_log.proofs.theorems.Lawful.{checkpoint_keeps_the_image}
use Rattle.segment_log.proofs.theorems.checkpoint_keeps_the_image.Goals as goal

pub returns : goal.returns
returns c = checkpoint_keeps_the_image
