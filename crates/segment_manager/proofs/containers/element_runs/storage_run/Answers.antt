-- The words are in the block.
use Rattle.segment_manager.proofs.Common.{◌+◌, arith, live_of}
use Rattle.best_fit.proofs.Laws.{room-less}
use Rattle.segment_manager.proofs.containers.element_runs.storage_run.Goals as goal

pub link-requires-clause-room : goal.link-requires-clause-room
link-requires-clause-room c = room-less (live_of c.args.heap.now.bytes) c.args.handle (c.args.at + 24) (c.args.at + 8)
    (omega arith) c.requires.room

pub word-requires : goal.word-requires
word-requires c = room-less (live_of c.args.heap.now.bytes) c.args.handle (c.args.at + 24) (c.args.at + 8 + 8)
    (omega arith) c.requires.room
