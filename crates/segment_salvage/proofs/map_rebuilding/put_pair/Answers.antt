-- A pair that stands in the image is put.
use Rattle.std.proofs.Common.{subst}
use Rattle.segment_salvage.proofs.Calls.{pair-stands}
use Rattle.segment_salvage.specs.Standing.{Salvages}
use Rattle.segment_salvage.proofs.map_rebuilding.put_pair.Goals as goal

pub returns-in-Ok-true : goal.returns-in-Ok-true
returns-in-Ok-true c =
    subst (λ s. Salvages c.args._image.now s c.put_scalars.new.segment) c.remember.ensures.unchanged
    (pair-stands c.args._image.now _ _ _ _ _ c.args.pair _ c.requires c.put_scalars.ensures.step)

pub returns-in-Ok-false : goal.returns-in-Ok-false
returns-in-Ok-false c =
    subst (λ s. Salvages c.args._image.now s c.put_scalars.new.segment) c.remember.ensures.unchanged
    (pair-stands c.args._image.now _ _ _ _ _ c.args.pair _ c.requires c.put_scalars.ensures.step)
