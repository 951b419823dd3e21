-- The tile of the index is among the remaining tiles.
use Rattle.best_fit.proofs.tile_walk.Walk.{Left, StillAt}
use Rattle.best_fit.proofs.tile_walk.tile.Given as goal

abbrev pub invariant-tiles : goal.invariant-tiles
invariant-tiles l = Left l.window l.ahead (StillAt l.window l.counter l.index)
