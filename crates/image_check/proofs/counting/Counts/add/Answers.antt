use Rattle.image_check.proofs.Common.{refl}
use Rattle.image_check.proofs.walks.Counts.{counted-free, counted-used}
use Rattle.image_check.proofs.counting.Counts.add.Goals as goal

pub returns-in-None : goal.returns-in-None
returns-in-None c ts k = counted-free ts c.args.self.now _ c.args.tile k c.in-None.is refl refl

pub returns-in-Some : goal.returns-in-Some
returns-in-Some c ts k = counted-used ts c.args.self.now _ c.args.tile k _ c.in-Some.is refl refl
