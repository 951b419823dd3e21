-- The vector's element is the object's.
use Rattle.segment_manager.proofs.{Common.◌∙◌, containers.ScalarTypes.of-vector}
use Rattle.segment_manager.proofs.containers.VectorAnswers.{some-vector, vector-read}
use Rattle.segment_manager.proofs.bound.slices.GrowableSliceStorage.get.Goals as goal

pub get-requires : goal.get-requires
get-requires g c = some-vector (of-vector g.met.T.Scalar) c.segment.view_is c.requires (c.at.ensures
    ∙ c.own_container.ensures)
    c.segment.invariant

pub returns : goal.returns
returns g c = vector-read (of-vector g.met.T.Scalar) c.segment.view_is c.requires (c.at.ensures
    ∙ c.own_container.ensures)
    c.segment.invariant _ _ c.get.ensures
