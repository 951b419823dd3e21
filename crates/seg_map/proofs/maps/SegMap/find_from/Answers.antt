-- The pair that is found is read.
use Rattle.seg_map.proofs.{finds_first, found_room, looked_up}
use Rattle.seg_map.proofs.maps.SegMap.find_from.Goals as goal

pub read_found-requires : goal.read_found-requires
read_found-requires g c =
    let f = c.find_first_not_before-found.ensures in let sought = c.args.sought.now in
    found_room (finds_first c.open-pairs.ensures.opening sought.past sought.key f.steps_exact f.steps f.first)
    c.requires

pub returns : goal.returns
returns g c =
    let f = c.find_first_not_before-found.ensures in let sought = c.args.sought.now in let r = c.read_found.ensures in
    looked_up (finds_first c.open-pairs.ensures.opening sought.past sought.key f.steps_exact f.steps f.first) r.item
    r.steps
