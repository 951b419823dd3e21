-- The node is unlinked from the tree, the three words are written, and its block is freed.
use Rattle.seg_map.proofs.{subst, sym, ◌+◌, is_proper, has_room, live_left, refl, ap, ◌-◌, None, arith, laws}
use Rattle.seg_map.proofs.{can_unlink, erased, few_steps, gone_live, IsTrue, lent_tree, live_laid, own_nodes, relinked}
use Rattle.seg_map.proofs.{removed_length, taken, rules, top_whole, Relinked, maps.SegMap.unlink_pair.Goals.After-add}
use Rattle.link_tree.specs.Nodes.{without}
use Rattle.best_fit.specs.Heap.{heap_touches}
use Rattle.seg_map.proofs.maps.SegMap.unlink_pair.Goals as goal

pub remove_at-changed-requires : goal.remove_at-changed-requires
remove_at-changed-requires g c =
    let q = c.requires in let lent = c.lend-pairs.ensures in
    let r = can_unlink (laws g.met.K.Plain) c.args.heap.now q.map c.requires.leads q.key q.found q.is
    c.args.trace.now.start q.begins in
    rw (lent.ownership, lent.heap) (record { root = r.0.leads; tree = (q.map.map.tree.tree, r.0.tree, r.1, r.2) })

-- a change of the nodes is a change of the heap
cut : (g : _) (c : After-add g) → Relinked g.K.Plain (own_nodes c.args.heap.now.bytes c.args.trace.now.root None)
    c.args.heap.now c.heap-1.given.0 c.args.trace.now.root c.remove_at-changed.result.root
    (without c.args.node) 30 (c.add.new.self - c.args.steps.now)
cut g c =
    let f = c.remove_at-changed.ensures in let lent = c.lend-pairs in let r = c.remove_at-changed.result in
    rw (← lent.ensures.ownership, ← lent.ensures.heap)
    (relinked g.K.Plain lent.result.own c.remove_at-changed.new.nodes.own c.args.trace.now.root r.root c.args.steps.now
    r.steps (search rules) f.keeper.kept f.root c.add.ensures f.tree f.steps)

pub write_map_header-requires : goal.write_map_header-requires
write_map_header-requires g c =
    let r = c.requires.map in let u = cut g (goal.at.write_map_header-requires g c).After-add in
    record {
      aligned = r.aligned;
      proper = subst (λ l. IsTrue (is_proper l)) (sym (live_left u)) r.heap.proper;
      room = subst (λ l. IsTrue (has_room l c.args.self.place.handle (c.args.self.place.at + 24))) (sym (live_left u))
          r.room;
      root = top_whole r (lent_tree (laws g.met.K.Plain) c.args.heap.now r c.requires.leads refl) u;
    }

pub deallocate-requires : goal.deallocate-requires
deallocate-requires g c =
    let r = c.requires in
    gone_live r.map r.key r.found r.is
    (live_laid (cut g (goal.at.deallocate-requires g c).After-add) c.write_map_header.ensures)

pub returns-clause-changes : goal.returns-clause-changes
returns-clause-changes g c = λ ps key p s has is. erased (laws g.met.K.Plain) (laws g.met.V.Plain) s key has is
    (taken (laws g.met.K.Plain) c.args.heap.now s c.requires.leads key has is
    (cut g (goal.at.returns-clause-changes g c).After-add)
    (laws g.met.V.Plain) (omega (arith, c.len-count.ensures ps s, removed_length g.K.Plain.order ps key p has))
    c.write_map_header.ensures) c.deallocate.ensures.released

pub returns-clause-steps : goal.returns-clause-steps
returns-clause-steps g c = λ ps s.
    let u = cut g (goal.at.returns-clause-steps g c).After-add in
    let few = few_steps s (lent_tree (laws g.met.K.Plain) c.args.heap.now s c.requires.leads refl) u in
    let touches = ap heap_touches (live_laid u c.write_map_header.ensures) in
    omega (arith, few, c.add.ensures, c.remove_at-changed.ensures.steps_lower, c.deallocate.ensures.steps, touches)
