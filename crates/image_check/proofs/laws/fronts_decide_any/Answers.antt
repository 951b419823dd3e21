use Rattle.image_check.proofs.opening.Decisions.{all_decided_any}
use Rattle.image_check.proofs.laws.fronts_decide_any.Goals as goal

pub returns : goal.returns
returns c = all_decided_any
