-- The pairs of the map are a search tree.
use Rattle.seg_map.proofs.{laws, lent_tree, opened}
use Rattle.seg_map.proofs.maps.SegMap.open.Goals as goal

pub returns : goal.returns
returns g c =
    let t = lent_tree (laws g.met.K.Plain) c.args.heap.now c.requires.1 c.link-root.ensures c.new.ensures in
    record {
      root = c.link-root.ensures;
      link_target = t.leads;
      tree = (c.requires.1.map.tree.tree, t.tree);
      opening = opened (laws g.met.K.Plain) (laws g.met.V.Plain) c.args.heap.now _ _ c.link-root.ensures c.new.ensures;
    }
