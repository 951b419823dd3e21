-- The tree has the gaps among the tiles that are passed, and nothing else has changed.
use Rattle.best_fit.proofs.Common.{length}
use Rattle.best_fit.proofs.free_tree.Rebuild.{HasPlanted}
use Rattle.best_fit.proofs.tile_walk.Walk.{Walk, to_go}
use Rattle.best_fit.proofs.heap.free_tree_build.plant_gaps.Given as goal

abbrev pub invariant-tiles : goal.invariant-tiles
invariant-tiles l = Walk l.gaps.window (HasPlanted l.initial.gaps.window l.gaps.window) l.ahead

abbrev pub decreases-tiles : goal.decreases-tiles
decreases-tiles l = to_go (length l.initial.gaps.window.bytes) l.ahead
