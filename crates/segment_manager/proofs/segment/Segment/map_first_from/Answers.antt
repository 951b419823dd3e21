-- The pair is searched for in the map that is found.
use Rattle.segment_manager.proofs.segment.Segment.map_first_from.Goals as goal
use Rattle.segment_manager.{proofs.bound.ByKey.tells, specs.containers.Maps.pair_from}

pub returns : goal.returns
returns g c = tells c.in_ok-of.ensures.segment c.in_ok-of.ensures.location g.K.Scalar.kind g.V.Scalar.kind
    (pair_from (g.K.Scalar.whole c.args.from)) c.first_from.ensures
