-- The node is linked into the tree, and the three words are written.
use Rattle.seg_map.proofs.{subst, is_proper, has_room, live_left, sym, ap, ◌∙◌, ◌+◌, ◌-◌, Some, arith, bits, laws}
use Rattle.seg_map.proofs.{can_link, few_steps, IsTrue, own_nodes, planted, planted_tree, relinked, rules, top_whole}
use Rattle.seg_map.proofs.{Relinked, pairs.SearchTree.few_in_map, maps.SegMap.link_pair.Goals.After-add}
use Rattle.link_tree.specs.Nodes.{insert_in_order}
use Rattle.seg_map.specs.{Linking.keys_in, PairNodes.comes_before}
use Rattle.seg_map.proofs.maps.SegMap.link_pair.Goals as goal

pub insert_at-changed-requires : goal.insert_at-changed-requires
insert_at-changed-requires g c =
    let h = c.requires.there in let lent = c.lend-pairs.ensures in
    let r = can_link (laws g.met.K.Plain) c.args.heap.now h.map c.requires.leads h.loose h.is c.args.trace.now.start
    c.requires.begins in
    rw (lent.ownership, lent.heap)
    (record { root = r.0.leads; node = r.1; tree = (h.map.map.tree.tree, r.0.tree, r.2, r.3) })

-- a change of the nodes is a change of the heap
entered : (g : _) (c : After-add g) → let ns =
    own_nodes c.args.heap.now.bytes c.args.trace.now.root (Some c.args.node) in
    Relinked g.K.Plain ns c.args.heap.now c.heap-1.given.0 c.args.trace.now.root c.insert_at-changed.result.root
    (insert_in_order (comes_before g.K.Plain.order (keys_in g.K.Plain ns c.args.heap.now)) c.args.node) 28
    (c.add.new.self - c.args.steps.now)
entered g c =
    let f = c.insert_at-changed.ensures in let lent = c.lend-pairs in let r = c.insert_at-changed.result in
    rw (← lent.ensures.ownership, ← lent.ensures.heap)
    (relinked g.K.Plain lent.result.own c.insert_at-changed.new.nodes.own c.args.trace.now.root r.root c.args.steps.now
    r.steps (search rules) f.keeper.kept f.root c.add.ensures f.tree f.steps)

pub overflow_add-count : goal.overflow_add-count
overflow_add-count g c =
    let r = c.requires.there in
    omega (arith, c.len-count.ensures r.pairs r.map, few_in_map (laws g.met.K.Plain) c.args.heap.now r.map)

pub write_map_header-requires : goal.write_map_header-requires
write_map_header-requires g c =
    let h = c.requires.there in let u = entered g (goal.at.write_map_header-requires g c).After-add in
    record {
      aligned = h.map.aligned;
      proper = subst (λ l. IsTrue (is_proper l)) (sym (live_left u)) h.map.heap.proper;
      room = subst (λ l. IsTrue (has_room l c.args.self.place.handle (c.args.self.place.at + 24))) (sym (live_left u))
          h.map.room;
      root = top_whole h.map
          (planted_tree (laws g.met.K.Plain) c.args.heap.now h.map c.requires.leads h.loose h.is) u;
    }

pub returns-clause-tree : goal.returns-clause-tree
returns-clause-tree g c = λ ps p s loose is. planted (laws g.met.K.Plain) c.args.heap.now s c.requires.leads loose
    is (entered g (goal.at.returns-clause-tree g c).After-add) (laws g.met.V.Plain)
    (omega (arith, c.len-count.ensures ps s)) c.write_map_header.ensures

pub returns-clause-steps : goal.returns-clause-steps
returns-clause-steps g c = λ ps s.
    let r = c.requires.there in let u = entered g (goal.at.returns-clause-steps g c).After-add in
    let t = planted_tree (laws g.met.K.Plain) c.args.heap.now r.map c.requires.leads r.loose r.is in
    let digits = ap (λ n. bits (n + 1)) (sym r.map.map.count ∙ s.map.count) in
    omega (arith, few_steps r.map t u, digits, c.add.ensures)
