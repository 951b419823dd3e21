-- The capacities of two indexes grow, one after another.
use Rattle.segment_salvage.proofs.Steps.{reserve_named-stands, reserve_unique-stands, then_salvages}
use Rattle.segment_salvage.proofs.salvaging.reserve.Goals as goal

pub returns : goal.returns
returns c =
    then_salvages _ _ c.reserve_named.new.self _
    (reserve_named-stands c.args._image.now _ _ _ _ c.reserve_named.ensures.step)
    (reserve_unique-stands c.args._image.now _ _ _ _ c.reserve_unique.ensures.step)
