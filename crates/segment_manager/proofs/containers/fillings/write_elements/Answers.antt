-- Each turn writes one more copy of the bytes.
use Rattle.segment_manager.proofs.containers.fillings.write_elements.Goals as goal
use Rattle.segment_manager.proofs.Common.{arith, length, ◌+◌, ◌<◌}
use Rattle.segment_manager.proofs.objects.Slices.{Repeats, next-small, repeats-more, room-once_more}

pub overflow_mul-len : goal.overflow_mul-len
overflow_mul-len c =
    let below : c.loop-i.i < c.args.count = omega arith in
    let small = next-small c.args.heap.now c.args.handle c.args.at
    (length c.args.bytes.now) c.loop-i.i c.args.count c.requires.heap c.requires.room below in
    omega arith

pub overflow_add-at : goal.overflow_add-at
overflow_add-at c =
    let below : c.loop-i.i < c.args.count = omega arith in
    let small = next-small c.args.heap.now c.args.handle c.args.at
    (length c.args.bytes.now) c.loop-i.i c.args.count c.requires.heap c.requires.room below in
    omega arith

pub write-requires : goal.write-requires
write-requires c =
    let below : c.loop-i.i < c.args.count = omega arith in
    room-once_more c.args.handle c.args.at
    (length c.args.bytes.now) c.loop-i.i c.args.count below c.requires.room c.loop-i.invariant.change

pub loop-i-preserved : goal.loop-i-preserved
loop-i-preserved c =
    let r : Repeats c.args.heap.now c.loop-i.heap (c.args.handle + c.args.at) c.loop-i.i c.args.bytes.now = record {
      change = c.loop-i.invariant.change;
      content = c.loop-i.invariant.content;
    } in
    let more = repeats-more c.args.handle c.args.at r c.write.ensures.changes c.write.ensures.content in
    record { change = more.change; content = more.content }
