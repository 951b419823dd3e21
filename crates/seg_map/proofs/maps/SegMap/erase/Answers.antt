-- The pair is found, and given up.
use Rattle.seg_map.proofs.{key_at_node}
use Rattle.seg_map.proofs.maps.SegMap.erase.Goals as goal

pub unlink_pair-requires : goal.unlink_pair-requires
unlink_pair-requires g c =
    let ps = c.requires.0 in let s = c.requires.1 in let trace = c.find_for_erase-trace in
    let k = key_at_node trace.ensures.search s c.in-Some.is in
    record {
      pairs = ps;
      key = c.args.key;
      pair = k.pair;
      map = s;
      found = k.holds;
      is = k.at;
      leads = trace.ensures.root;
      begins = rw c.in-Some.is at (trace.ensures.exit ps s);
    }
