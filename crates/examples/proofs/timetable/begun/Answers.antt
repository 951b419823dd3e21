-- The block that was taken has room for the vector.
use Rattle.std.proofs.Common.{lit≤}
use Rattle.best_fit.proofs.Laws.{allocated-room}
use Rattle.examples.proofs.timetable.begun.Goals as goal

pub new-vector-requires-clause-room : goal.new-vector-requires-clause-room
new-vector-requires-clause-room g c = allocated-room _ _ _ 24 _ _ 24 c.in_ok-handle.ensures.answer (lit≤ tt)
