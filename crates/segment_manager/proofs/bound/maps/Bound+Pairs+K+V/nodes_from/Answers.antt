-- The nodes of the pairs are listed from the map.
use Rattle.segment_manager.proofs.containers.MapAnswers.{in-heap, node-count-there, nodes-there}
use Rattle.segment_manager.proofs.containers.ScalarTypes.{of-map}
use Rattle.segment_manager.proofs.bound.maps.Bound+Pairs+K+V.nodes_from.Goals as goal

pub returns-clause-count : goal.returns-clause-count
returns-clause-count g c = node-count-there (of-map g.met.K.Scalar) (of-map g.met.V.Scalar)
    (in-heap c.map.ensures.heap) c.args.self.now.live c.map.ensures.place c.map.ensures.denotation
    c.args.past c.args.from c.args.list.now c.nodes_from.new.list c.nodes_from.result c.nodes_from.ensures.list

pub returns-clause-list : goal.returns-clause-list
returns-clause-list g c = nodes-there (of-map g.met.K.Scalar) (of-map g.met.V.Scalar)
    (in-heap c.map.ensures.heap) c.args.self.now.live c.map.ensures.place c.map.ensures.denotation
    c.args.past c.args.from c.args.list.now c.nodes_from.new.list c.nodes_from.result c.nodes_from.ensures.list
