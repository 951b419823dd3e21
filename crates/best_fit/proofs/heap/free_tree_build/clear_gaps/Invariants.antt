-- The links of the gaps among the tiles that are passed are null, and nothing else has changed.
use Rattle.best_fit.proofs.Common.{length}
use Rattle.best_fit.proofs.free_tree.EmptyTree.{Cleared}
use Rattle.best_fit.proofs.tile_walk.Walk.{Walk, to_go}
use Rattle.best_fit.proofs.heap.free_tree_build.clear_gaps.Given as goal

abbrev pub invariant-tiles : goal.invariant-tiles
invariant-tiles l = Walk l.window (Cleared l.initial.window l.window) l.ahead

abbrev pub decreases-tiles : goal.decreases-tiles
decreases-tiles l = to_go (length l.initial.window.bytes) l.ahead
