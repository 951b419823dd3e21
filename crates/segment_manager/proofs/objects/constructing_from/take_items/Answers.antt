-- The object is filled, and then its entry is added, or all its blocks are freed.
use Rattle.segment_manager.proofs.objects.constructing_from.take_items.Goals as goal
use Rattle.segment_manager.proofs.Common.{Scalar, SegmentState, Write, refl, size_of, ◌*◌}
use Rattle.segment_manager.proofs.objects.Exchanged.{begun-heap, begun-room}
use Rattle.segment_manager.proofs.objects.FilledCalls.{fills-ending, takes}

pub fill_items-filled-requires-clause-heap : goal.fill_items-filled-requires-clause-heap
fill_items-filled-requires-clause-heap g c =
    let q = c.requires.start in
    begun-heap c.args.begun.entry q.0 c.args.heap.now q.1.1.0 (Scalar c.args.kind) c.args.count
    (size_of c.args.kind * c.args.count) c.args.begun.handle c.args.begun.at q.1.1.1

pub fill_items-filled-requires-clause-room : goal.fill_items-filled-requires-clause-room
fill_items-filled-requires-clause-room g c =
    let q = c.requires.start in
    begun-room c.args.begun.entry q.0 c.args.heap.now q.1.1.0 (Scalar c.args.kind) c.args.count
    (size_of c.args.kind * c.args.count) c.args.begun.handle c.args.begun.at q.1.1.1

pub finish_object-requires : goal.finish_object-requires
finish_object-requires g c =
    let q = c.requires.start in let s : SegmentState = record { cut = q.0; mode = Write } in
    fills-ending _ g.I.Iterator.next_gives g.S.Spelling.whole s q.1.0 q.1.1.0 c.args.kind c.args.count refl
    c.requires.non_empty c.requires.max_count c.args.items.now c.fill_items-filled.new.items c.args.begun.entry
    c.fill_items-filled.result c.args.begun.handle c.args.begun.at q.1.1.1 c.fill_items-filled.ensures

pub returns : goal.returns
returns g c old key b begun = λ mode writing.
    let s : SegmentState = record { cut = old; mode = mode } in
    takes _ g.I.Iterator.next_gives g.S.Spelling.whole s b key c.args.kind c.args.count writing c.requires.non_empty
    c.requires.max_count c.args.items.now c.fill_items-filled.new.items c.args.begun.entry c.fill_items-filled.result
    c.args.heap.now c.fill_items-filled.new.heap c.finish_object.new.heap c.args.begun.handle c.args.begun.at
    c.finish_object.result begun c.fill_items-filled.ensures c.finish_object.ensures
