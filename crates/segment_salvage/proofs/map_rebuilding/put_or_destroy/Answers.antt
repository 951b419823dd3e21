-- Pairs are put, and the map is destroyed.
use Rattle.segment_salvage.proofs.{Maps.destroy-stands, Steps.then_salvages}
use Rattle.segment_salvage.proofs.map_rebuilding.put_or_destroy.Goals as goal

pub returns-in-Err : goal.returns-in-Err
returns-in-Err c =
    then_salvages _ _ _ _ c.put_pairs.ensures (destroy-stands c.args.image.now _ _ _ _ c.destroy_ptr.ensures.step)
