-- The pair is read at its node.
use Rattle.segment_manager.proofs.containers.MapAnswers.{in-heap, node-there, pair-there}
use Rattle.segment_manager.proofs.containers.ScalarTypes.{of-map}
use Rattle.segment_manager.proofs.bound.maps.Bound+Pairs+K+V.pair_of.Goals as goal

pub pair_of-requires : goal.pair_of-requires
pair_of-requires g c = node-there (of-map g.met.K.Scalar) (of-map g.met.V.Scalar) (in-heap c.map.ensures.heap)
    c.args.self.now.live c.map.ensures.place c.map.ensures.denotation c.args.node c.requires

pub returns : goal.returns
returns g c = pair-there (of-map g.met.K.Scalar) (of-map g.met.V.Scalar) (in-heap c.map.ensures.heap)
    c.args.self.now.live c.map.ensures.place c.map.ensures.denotation c.args.node c.pair_of.result
    c.pair_of.ensures
