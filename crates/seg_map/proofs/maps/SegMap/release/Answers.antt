-- A pair is removed as long as there is a root.
use Rattle.seg_map.proofs.{◌≡◌, sym, ◌∙◌, None, laws, given_up, going_on, one_less, root_exit, root_pair}
use Rattle.seg_map.proofs.maps.SegMap.release.Goals as goal

pub unlink_pair-requires : goal.unlink_pair-requires
unlink_pair-requires g c =
    let going = c.pairs.invariant c.requires.0 c.requires.1 in
    let n = root_pair (laws g.met.K.Plain) going (sym c.link.ensures ∙ c.in-Some.is) in
    record {
      pairs = going.pairs;
      key = n.pair.key;
      pair = n.pair;
      map = going.holds;
      found = n.holds;
      is = n.at;
      leads = sym c.in-Some.is ∙ c.link.ensures;
      begins = root_exit (laws g.met.K.Plain) going (sym c.link.ensures ∙ c.in-Some.is);
    }

pub pairs-smaller : goal.pairs-smaller
pairs-smaller g c =
    let going = c.pairs.invariant c.requires.0 c.requires.1 in
    let n = root_pair (laws g.met.K.Plain) going (sym c.link.ensures ∙ c.in-Some.is) in
    one_less (laws g.met.K.Plain) going n.holds
    (c.unlink_pair.ensures.changes going.pairs n.pair.key n.pair going.holds n.holds n.at)

pub pairs-preserved : goal.pairs-preserved
pairs-preserved g c = λ ps s.
    let going = c.pairs.invariant ps s in
    let n = root_pair (laws g.met.K.Plain) going (sym c.link.ensures ∙ c.in-Some.is) in
    going_on (laws g.met.K.Plain) going n.holds
    (c.unlink_pair.ensures.changes going.pairs n.pair.key n.pair going.holds n.holds n.at)

pub returns : goal.returns
returns g c =
    let none : c.link.result ≡ None = cc in
    λ ps s. given_up (laws g.met.K.Plain) (c.pairs.invariant ps s) s.heap.proper (sym c.link.ensures ∙ none)
