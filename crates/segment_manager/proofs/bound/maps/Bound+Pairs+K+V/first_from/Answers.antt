-- The pair is searched for in the map.
use Rattle.segment_manager.proofs.Common.{false, refl}
use Rattle.segment_manager.proofs.containers.{MapAnswers.past-there, MapAnswers.in-heap, ScalarTypes.of-map}
use Rattle.segment_manager.proofs.bound.maps.Bound+Pairs+K+V.first_from.Goals as goal

pub returns : goal.returns
returns g c = past-there (of-map g.met.K.Scalar) (of-map g.met.V.Scalar) (in-heap c.map.ensures.heap)
    c.args.self.now.live c.map.ensures.place c.map.ensures.denotation false false refl
    c.args.from c.first_from.result c.first_from.ensures.item
