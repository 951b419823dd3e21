-- A node is allocated and linked into the map.
use Rattle.seg_map.proofs.{refl, arith, laws, is_put, map_there, can_put_in}
use Rattle.seg_map.proofs.maps.SegMap.put_new.Goals as goal

pub link_pair-requires : goal.link_pair-requires
link_pair-requires g c =
    let ps = c.requires.map.0 in let s = c.requires.map.1 in
    can_put_in (laws g.met.K.Plain) (laws g.met.V.Plain) s (c.requires.fresh ps s) c.in_ok-node.ensures.creation
    c.find_put_entry-trace.ensures.root (c.find_put_entry-trace.ensures.entry ps s)

pub returns-clause-effect : goal.returns-clause-effect
returns-clause-effect g c = λ ps s.
    let absent = c.requires.fresh ps s in
    rw absent (
      refl,
      is_put (laws g.met.K.Plain) (laws g.met.V.Plain) s absent c.in_ok-node.ensures.creation c.link_pair.ensures.tree,
    )

pub returns-clause-steps : goal.returns-clause-steps
returns-clause-steps g c = λ ps s.
    let absent = c.requires.fresh ps s in
    let there = map_there (laws g.met.K.Plain) (laws g.met.V.Plain) s absent c.in_ok-node.ensures.creation in
    omega (
      arith,
      c.find_put_entry-trace.ensures.steps ps s,
      c.allocate_node.ensures.steps,
      c.link_pair.ensures.steps ps there,
    )
