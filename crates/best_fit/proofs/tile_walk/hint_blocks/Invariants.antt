-- Each hint so far is the handle of a block.
use Rattle.best_fit.proofs.Common.{List, length, Tile, LeadToBlocks}
use Rattle.best_fit.proofs.tile_walk.Walk.{Left, to_go}
use Rattle.best_fit.proofs.tile_walk.hint_blocks.Given as goal

abbrev pub invariant-tiles : goal.invariant-tiles
invariant-tiles l = Left l.window l.ahead (λ (ts : List Tile). Unit {0}) × LeadToBlocks l.hints l.window.bytes

abbrev pub decreases-tiles : goal.decreases-tiles
decreases-tiles l = to_go (length l.window.bytes) l.ahead
