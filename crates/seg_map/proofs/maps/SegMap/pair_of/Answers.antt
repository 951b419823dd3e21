-- The node is the node of a pair, whose bytes are read.
use Rattle.seg_map.proofs.{laws, reads_node, room_at_node}
use Rattle.seg_map.proofs.maps.SegMap.pair_of.Goals as goal

pub pair_at-requires : goal.pair_at-requires
pair_at-requires g c =
    room_at_node (laws g.met.K.Plain) (laws g.met.V.Plain) c.args.heap.now c.args.self.place c.args.node c.requires

pub returns : goal.returns
returns g c =
    reads_node (laws g.met.K.Plain) (laws g.met.V.Plain) c.args.heap.now c.args.self.place c.args.node
    c.pair_at.result c.pair_at.ensures
