-- The pair is searched for in the map that is found.
use Rattle.segment_manager.proofs.segment.Segment.map_next_after.Goals as goal
use Rattle.segment_manager.{proofs.bound.ByKey.tells, specs.containers.Maps.pair_above}

pub returns : goal.returns
returns g c = tells c.in_ok-of.ensures.segment c.in_ok-of.ensures.location g.K.Scalar.kind g.V.Scalar.kind
    (pair_above (g.K.Scalar.whole c.args.after)) c.next_after.ensures
