-- The head has room in the block.
use Rattle.segment_manager.proofs.Common.{◌+◌, arith, current, ObjectRole, allocated-room}
use Rattle.segment_manager.proofs.objects.pending_object.begin_alone.Goals as goal

pub write_head-requires-clause-room : goal.write_head-requires-clause-room
write_head-requires-clause-room c = allocated-room current c.args.heap.now c.allocate.new.self
    (16 + c.args.shape.len) ObjectRole c.in-Ok.handle 16 c.in-Ok.ensures.answer (omega arith)
