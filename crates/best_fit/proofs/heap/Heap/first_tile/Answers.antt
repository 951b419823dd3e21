-- The first tile is the one of index 0.
use Rattle.best_fit.proofs.Common.{◌≡◌}
use Rattle.best_fit.proofs.tile_walk.Walk.{heap_first, heap_span, window_tiled}
use Rattle.best_fit.proofs.heap.Heap.first_tile.Goals as goal

pub first-requires : goal.first-requires
first-requires c = window_tiled c.self.inside.gaps.window c.self.invariant.heap

pub returns-clause-tile : goal.returns-clause-tile
returns-clause-tile c =
    let e : c.args.self.now ≡ c.self.inside.gaps.window = cc in
    heap_first c.self.inside.gaps.window c.args.self.now c.self.invariant.heap e c.first.result c.first.ensures

pub returns-clause-span : goal.returns-clause-span
returns-clause-span c =
    let e : c.args.self.now ≡ c.self.inside.gaps.window = cc in
    heap_span c.self.inside.gaps.window c.args.self.now c.self.invariant.heap e 0 c.first.result
    (heap_first c.self.inside.gaps.window c.args.self.now c.self.invariant.heap e c.first.result c.first.ensures)
