-- Each turn takes one more item and writes it after the earlier ones.
use Rattle.segment_manager.proofs.objects.constructing_from.fill_items.Goals as goal
use Rattle.segment_manager.proofs.Common.{IsTrue, ap, arith, has_room, live_of, size_of, subst, sym, ◌*◌, ◌+◌, ◌<◌, ◌≡◌}
use Rattle.segment_manager.proofs.objects.Slices.{filling-more, last-holds, next-small, room-once_more}
use Rattle.std.proofs.Common.{Fits, w64}

pub overflow_add-at : goal.overflow_add-at
overflow_add-at g c =
    let below : c.loop-i.i < c.args.count = omega arith in
    let small = next-small c.args.heap.now c.args.handle c.args.at
    (size_of c.args.kind) c.loop-i.i c.args.count c.requires.heap c.requires.room below in
    subst (λ n. Fits w64 (c.args.at + n * c.loop-i.i)) (sym c.size-size.ensures) (omega arith)

pub write_item-requires-clause-room : goal.write_item-requires-clause-room
write_item-requires-clause-room g c =
    let below : c.loop-i.i < c.args.count = omega arith in
    subst (λ n. IsTrue (has_room (live_of c.loop-i.heap.bytes) c.args.handle (c.args.at + n * c.loop-i.i + size_of
    c.args.kind))) (sym c.size-size.ensures) (room-once_more c.args.handle c.args.at (size_of c.args.kind)
    c.loop-i.i c.args.count below c.requires.room c.loop-i.invariant.change)

pub write_item-requires-clause-kind_fit : goal.write_item-requires-clause-kind_fit
write_item-requires-clause-kind_fit g c = λ item after step. last-holds g.I.Iterator.next_gives
    (λ item. g.S.Spelling.kind item ≡ c.args.kind) c.args.items.now c.loop-i.items after c.loop-i.invariant.items item
    c.requires.kind_fit c.loop-i.invariant.ran step

pub loop-i-preserved : goal.loop-i-preserved
loop-i-preserved g c =
    let size : c.size-size.result ≡ size_of c.args.kind = c.size-size.ensures in
    let same : c.size-size.result * c.loop-i.i ≡ size_of c.args.kind * c.loop-i.i = ap (λ n. n * c.loop-i.i) size in
    filling-more _ c.loop-i.invariant c.in_ok-write_item.ensures.well_formed (omega arith)
    c.in_ok-write_item.ensures.next
