-- The nodes of the pairs of the map are listed.
use Rattle.seg_map.proofs.{listing_steps, lists_nodes}
use Rattle.seg_map.proofs.maps.SegMap.nodes_from.Goals as goal

pub returns-clause-list : goal.returns-clause-list
returns-clause-list g c =
    let f = c.list_nodes_from-found.ensures in
    lists_nodes c.open-pairs.ensures.opening c.args.past c.args.from c.args.list.now c.list_nodes_from-found.new.list
    c.list_nodes_from-found.result.count f.list f.count

pub returns-clause-steps : goal.returns-clause-steps
returns-clause-steps g c =
    let f = c.list_nodes_from-found.ensures in
    listing_steps c.open-pairs.ensures.opening c.list_nodes_from-found.result.count c.list_nodes_from-found.result.steps
    c.args.steps.now c.add.new.self f.steps c.add.ensures
