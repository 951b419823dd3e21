-- The object's block is freed first, and then the index's new block.
use Rattle.segment_manager.proofs.objects.pending_object.give_back.Goals as goal
use Rattle.segment_manager.proofs.Common.{WritesUnindexedForEntry, WritesUnindexedObject, subst}
use Rattle.segment_manager.proofs.objects.Exchanged.{alone-back, entry-back, loose-held, loose-live}

pub deallocate-requires : goal.deallocate-requires
deallocate-requires c = loose-live c.args.entry c.requires.0 c.args.heap.now c.args.handle c.requires.1

pub give_back-requires : goal.give_back-requires
give_back-requires c =
    let l : WritesUnindexedForEntry c.requires.0 c.args.heap.now c.args.handle c.in-Some.new =
    subst (WritesUnindexedObject c.requires.0 c.args.heap.now c.args.handle) c.in-Some.is c.requires.1 in
    record { growth = loose-held l c.deallocate.ensures.released }

pub returns-in-Some : goal.returns-in-Some
returns-in-Some c = λ old loose.
    entry-back (subst (WritesUnindexedObject old c.args.heap.now c.args.handle) c.in-Some.is loose)
    c.deallocate.ensures.released c.give_back.ensures.changes

pub returns-in_default : goal.returns-in_default
returns-in_default c = λ old loose.
    alone-back (subst (WritesUnindexedObject old c.args.heap.now c.args.handle) c.in_default.is loose)
    c.deallocate.ensures.released
