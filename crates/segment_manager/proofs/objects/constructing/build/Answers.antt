-- The value is made at its place, and then its object's entry is added, or its blocks are freed.
use Rattle.segment_manager.proofs.objects.constructing.build.Goals as goal
use Rattle.segment_manager.proofs.Common.{bare, count_of, kind_of, value_len}
use Rattle.segment_manager.proofs.objects.Exchanged.{begun-heap, begun-room}
use Rattle.segment_manager.proofs.objects.FilledCalls.{builds, ending}

pub fill-filled-requires-clause-heap : goal.fill-filled-requires-clause-heap
fill-filled-requires-clause-heap g c =
    let b = c.args.begun in let q = c.requires.start in
    let content = g.F.ObjectInit.content c.args.filling.now in
    begun-heap b.entry q.0 c.args.heap.now q.1.1.0 (kind_of (bare content)) (count_of (bare content))
    (value_len (bare content)) b.handle b.at q.1.1.1

pub fill-filled-requires-clause-room : goal.fill-filled-requires-clause-room
fill-filled-requires-clause-room g c =
    let b = c.args.begun in let q = c.requires.start in
    let content = g.F.ObjectInit.content c.args.filling.now in
    begun-room b.entry q.0 c.args.heap.now q.1.1.0 (kind_of (bare content)) (count_of (bare content))
    (value_len (bare content)) b.handle b.at q.1.1.1

pub finish_object-requires : goal.finish_object-requires
finish_object-requires g c =
    let b = c.args.begun in let q = c.requires.start in
    ending (g.F.ObjectInit.content c.args.filling.now) q.0 c.args.heap.now q.1.0 q.1.1.0 b.handle b.at b.entry
    c.fill-filled.new.heap c.fill-filled.result q.1.1.1 c.fill-filled.ensures

pub returns : goal.returns
returns g c =
    let b = c.args.begun in
    builds (g.F.ObjectInit.content c.args.filling.now) c.args.heap.now c.fill-filled.new.heap c.finish_object.new.heap
    b.handle b.at b.entry c.fill-filled.result c.finish_object.result c.fill-filled.ensures c.finish_object.ensures
