use Rattle.image_check.proofs.frame.OlderFormats.{replanted_stand}
use Rattle.image_check.proofs.laws.replanted_stand.Goals as goal

pub returns : goal.returns
returns c = replanted_stand
