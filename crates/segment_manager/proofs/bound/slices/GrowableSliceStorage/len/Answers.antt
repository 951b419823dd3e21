-- The vector counts its elements.
use Rattle.segment_manager.proofs.{Common.◌∙◌, containers.ScalarTypes.of-vector}
use Rattle.segment_manager.proofs.containers.VectorAnswers.{some-vector, vector-counted}
use Rattle.segment_manager.proofs.bound.slices.GrowableSliceStorage.len.Goals as goal

pub len-requires : goal.len-requires
len-requires g c = some-vector (of-vector g.met.T.Scalar) c.segment.view_is c.requires (c.at.ensures
    ∙ c.own_container.ensures)
    c.segment.invariant

pub returns : goal.returns
returns g c = vector-counted (of-vector g.met.T.Scalar) c.segment.view_is c.requires (c.at.ensures
    ∙ c.own_container.ensures)
    c.segment.invariant _ c.len.ensures
