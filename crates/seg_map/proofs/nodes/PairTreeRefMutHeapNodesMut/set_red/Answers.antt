-- One colour changes.
use Rattle.seg_map.proofs.{rules, is_pair_node-PairNode, red_set}
use Rattle.seg_map.proofs.nodes.PairTreeRefMutHeapNodesMut.set_red.Goals as goal

pub returns : goal.returns
returns g c =
    let s = red_set g.K.Plain (is_pair_node-PairNode _ _ _ _ c.requires) c.set_node_red.ensures in
    search rules
