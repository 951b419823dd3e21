use Rattle.image_check.proofs.frame.OlderFormats.{new_versions_stand}
use Rattle.image_check.proofs.laws.new_versions_stand.Goals as goal

pub returns : goal.returns
returns c = new_versions_stand
