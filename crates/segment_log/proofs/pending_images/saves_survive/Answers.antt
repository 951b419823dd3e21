use Rattle.segment_log.proofs.pending_images.Surviving.{saves_survive}
use Rattle.segment_log.proofs.pending_images.saves_survive.Goals as goal

pub returns : goal.returns
returns c = saves_survive
