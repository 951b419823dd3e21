-- The key of the node that the search found is compared once.
use Rattle.seg_map.proofs.{false, arith, ends_is, finds_first, sought_room, looked_for}
use Rattle.seg_map.proofs.maps.SegMap.find_for_put.Goals as goal

pub with_key-requires : goal.with_key-requires
with_key-requires g c =
    let way = c.find_path_end-end.ensures in
    sought_room (finds_first c.open-pairs.ensures.opening false c.args.key way.steps_exact way.steps way.first)
    c.requires.map

pub returns : goal.returns
returns g c =
    let way = c.find_path_end-end.ensures in let o = c.open-pairs.ensures.opening in
    record {
      search = looked_for c.args.key (finds_first o false c.args.key way.steps_exact way.steps way.first)
          g.met.K.Plain.transitive c.with_key.ensures.node (omega arith);
      value = c.with_key.ensures.value;
      last = ends_is o c.args.key c.find_path_end-end.result.last way.last;
    }
