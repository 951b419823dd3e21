-- The block that was taken has room for the map.
use Rattle.std.proofs.Common.{lit≤}
use Rattle.best_fit.proofs.Laws.{allocated-room}
use Rattle.layer_tests.proofs.seg_map_tests.begun.Goals as goal

pub new-map-requires-clause-room : goal.new-map-requires-clause-room
new-map-requires-clause-room g c = allocated-room _ _ _ 24 _ _ 24 c.in_ok-handle.ensures.answer (lit≤ tt)
