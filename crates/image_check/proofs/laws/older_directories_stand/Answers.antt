use Rattle.image_check.proofs.frame.OlderFormats.{older_directories_stand}
use Rattle.image_check.proofs.laws.older_directories_stand.Goals as goal

pub returns : goal.returns
returns c = older_directories_stand
