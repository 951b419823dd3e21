-- The value is read from the map.
use Rattle.segment_manager.proofs.containers.{MapAnswers.got-there, MapAnswers.in-heap, ScalarTypes.of-map}
use Rattle.segment_manager.proofs.bound.maps.Bound+Pairs+K+V.get.Goals as goal

pub returns : goal.returns
returns g c = got-there (of-map g.met.K.Scalar) (of-map g.met.V.Scalar) (in-heap c.map.ensures.heap)
    c.args.self.now.live c.map.ensures.place c.map.ensures.denotation _ _ c.holds_value.ensures
    c.get.ensures.value
