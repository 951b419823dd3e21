-- The map counts its pairs.
use Rattle.segment_manager.proofs.containers.{MapAnswers.counted-there, MapAnswers.in-heap, ScalarTypes.of-map}
use Rattle.segment_manager.proofs.bound.maps.Bound+Pairs+K+V.len.Goals as goal

pub returns : goal.returns
returns g c = counted-there (of-map g.met.K.Scalar) (of-map g.met.V.Scalar) (in-heap c.map.ensures.heap)
    c.args.self.now.live c.map.ensures.place c.map.ensures.denotation _ c.len.ensures
