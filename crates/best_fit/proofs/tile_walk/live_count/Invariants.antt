-- The counted blocks and the blocks of the remaining tiles are all blocks.
use Rattle.best_fit.proofs.Common.{length}
use Rattle.best_fit.proofs.tile_walk.Walk.{Left, StillLive, to_go}
use Rattle.best_fit.proofs.tile_walk.live_count.Given as goal

abbrev pub invariant-tiles : goal.invariant-tiles
invariant-tiles l = Left l.window l.ahead (StillLive l.window l.count)

abbrev pub decreases-tiles : goal.decreases-tiles
decreases-tiles l = to_go (length l.window.bytes) l.ahead
