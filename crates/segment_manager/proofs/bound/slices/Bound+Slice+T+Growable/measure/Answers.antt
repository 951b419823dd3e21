-- The vector counts its elements and its places.
use Rattle.segment_manager.proofs.{Common.◌∙◌, containers.ScalarTypes.of-vector}
use Rattle.segment_manager.proofs.containers.VectorAnswers.{some-vector, vector-measured}
use Rattle.segment_manager.proofs.bound.slices.Bound+Slice+T+Growable.measure.Goals as goal

pub len-requires : goal.len-requires
len-requires g c = some-vector (of-vector g.met.T.Scalar) c.segment.view_is c.args.self.now.live
    (c.at-vector.ensures ∙ c.own_container.ensures) c.segment.invariant

pub capacity-requires : goal.capacity-requires
capacity-requires g c = some-vector (of-vector g.met.T.Scalar) c.segment.view_is c.args.self.now.live
    (c.at-vector.ensures ∙ c.own_container.ensures) c.segment.invariant

pub returns : goal.returns
returns g c = vector-measured (of-vector g.met.T.Scalar) c.segment.view_is c.args.self.now.live
    (c.at-vector.ensures ∙ c.own_container.ensures) c.segment.invariant _ _ c.len.ensures c.capacity.ensures
