-- The tile after one of an index is that of the next.
use Rattle.best_fit.proofs.Common.{◌≡◌, ◌+◌}
use Rattle.best_fit.proofs.tile_walk.Walk.{heap_has, heap_next, heap_span}
use Rattle.best_fit.proofs.heap.Heap.next_tile.Goals as goal

pub next-requires : goal.next-requires
next-requires c =
    let e : c.args.self.now ≡ c.self.inside.gaps.window = cc in
    heap_has c.self.inside.gaps.window c.args.self.now c.self.invariant.heap e c.args.tile c.requires

pub returns-clause-tile : goal.returns-clause-tile
returns-clause-tile c =
    let e : c.args.self.now ≡ c.self.inside.gaps.window = cc in
    heap_next c.self.inside.gaps.window c.args.self.now c.self.invariant.heap e c.args.tile c.next.result c.next.ensures

pub returns-clause-span : goal.returns-clause-span
returns-clause-span c i stands =
    let e : c.args.self.now ≡ c.self.inside.gaps.window = cc in
    heap_span c.self.inside.gaps.window c.args.self.now c.self.invariant.heap e (i + 1) c.next.result
    (heap_next c.self.inside.gaps.window c.args.self.now c.self.invariant.heap e c.args.tile c.next.result
    c.next.ensures i stands)
