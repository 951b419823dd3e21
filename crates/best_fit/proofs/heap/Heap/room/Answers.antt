-- The tile of the block has its length.
use Rattle.best_fit.proofs.Common.{◌≡◌, sym, subst, ap, ◌∙◌, ◌-◌, arith, Some, option_map, WindowState, Extent}
use Rattle.best_fit.proofs.Common.{live_of, extent_at}
use Rattle.best_fit.proofs.lending.Payloads.{LiveAt, live_at}
use Rattle.best_fit.proofs.tags.Writes.{block_len}
use Rattle.best_fit.proofs.heap.Heap.room.Goals.{After-tile_at}
use Rattle.best_fit.proofs.heap.Heap.room.Goals as goal

pub overflow_sub-handle : goal.overflow_sub-handle
overflow_sub-handle c = let low =
    (live_at c.args.self.now c.self.inside.gaps.window c.args.handle (cc) c.self.invariant.heap
    c.requires).low in omega arith

pub tile_at-requires : goal.tile_at-requires
tile_at-requires c =
    (live_at c.args.self.now c.self.inside.gaps.window c.args.handle (cc) c.self.invariant.heap c.requires).tile

block : (c : After-tile_at) → LiveAt c.self.inside.gaps.window c.args.handle
block c = live_at c.args.self.now c.self.inside.gaps.window c.args.handle (cc) c.self.invariant.heap c.requires

len : (c : After-tile_at) (s : LiveAt c.self.inside.gaps.window c.args.handle)
    → c.tile_at.result.len ≡ s.block.tile.len
len c s = let low = s.low in
    block_len c.self.inside.gaps.window c.args.handle (c.args.handle - 16) s.block (omega arith) c.tile_at.result
    c.tile_at.ensures

pub overflow_sub-result : goal.overflow_sub-result
overflow_sub-result c = let p = (goal.at.overflow_sub-result c).After-tile_at in
    let s = block p in let long = s.long in let same = len p s in omega arith

pub returns : goal.returns
returns c =
    let e : c.args.self.now ≡ c.self.inside.gaps.window = cc in let p = (goal.at.returns c).After-tile_at in
    let s = block p in
    subst (λ (v : WindowState). option_map (λ (x : Extent). x.len - 16) (extent_at (live_of v.bytes) c.args.handle)
    ≡ Some (c.tile_at.result.len - 16)) (sym e)
    (ap (option_map (λ (x : Extent). x.len - 16)) s.block.extent ∙ ap (λ k. Some (k - 16)) (sym (len p s)))
