use Rattle.image_check.proofs.reading.Deciding.{all_decided}
use Rattle.image_check.proofs.laws.fronts_decide_classes.Goals as goal

pub returns : goal.returns
returns c = all_decided
