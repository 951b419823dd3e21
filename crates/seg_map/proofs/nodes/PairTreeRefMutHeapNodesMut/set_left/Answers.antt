-- One link changes.
use Rattle.seg_map.proofs.{rules, is_pair_node-PairNode, left_set}
use Rattle.seg_map.proofs.nodes.PairTreeRefMutHeapNodesMut.set_left.Goals as goal

pub returns : goal.returns
returns g c =
    let set = c.set_link.ensures in let here = is_pair_node-PairNode _ _ _ _ c.requires.node in
    let s = left_set g.K.Plain here c.args.to c.requires.target set.link_target set.changes in
    search rules
