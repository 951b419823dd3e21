-- The pair that is found is read.
use Rattle.seg_map.proofs.{arith, finds_last, found_room, looked_up}
use Rattle.seg_map.proofs.maps.SegMap.last.Goals as goal

pub read_found-requires : goal.read_found-requires
read_found-requires g c =
    let f = c.find_last-found.ensures in
    found_room (finds_last c.open-pairs.ensures.opening f.last f.steps_exact f.steps) c.requires

pub returns : goal.returns
returns g c =
    let f = c.find_last-found.ensures in let r = c.read_found.ensures in
    let l = looked_up (finds_last c.open-pairs.ensures.opening f.last f.steps_exact f.steps) r.item r.steps in
    record { item = l.item; steps_lower = omega arith; steps = l.steps; steps_exact = l.exact }
