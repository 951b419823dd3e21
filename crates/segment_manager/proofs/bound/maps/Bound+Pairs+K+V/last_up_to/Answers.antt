-- The pair is searched for in the map.
use Rattle.segment_manager.proofs.Common.{true}
use Rattle.segment_manager.proofs.containers.{MapAnswers.back-there, MapAnswers.in-heap, ScalarTypes.of-map}
use Rattle.segment_manager.proofs.bound.maps.Bound+Pairs+K+V.last_up_to.Goals as goal

pub returns : goal.returns
returns g c = back-there (of-map g.met.K.Scalar) (of-map g.met.V.Scalar) (in-heap c.map.ensures.heap)
    c.args.self.now.live c.map.ensures.place c.map.ensures.denotation true _ _
    c.last_up_to.ensures.item
