-- The remaining tiles decide whether the handle is live.
use Rattle.best_fit.proofs.Common.{length}
use Rattle.best_fit.proofs.tile_walk.Walk.{Left, StillNames, to_go}
use Rattle.best_fit.proofs.tile_walk.is_reached.Given as goal

abbrev pub invariant-tiles : goal.invariant-tiles
invariant-tiles l = Left l.window l.ahead (StillNames l.window l.handle)

abbrev pub decreases-tiles : goal.decreases-tiles
decreases-tiles l = to_go (length l.window.bytes) l.ahead
