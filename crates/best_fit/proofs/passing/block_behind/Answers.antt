-- The tile after a block is in use, or is a gap with another block in use after it.
use Rattle.best_fit.proofs.Common.{◌≡◌, sym, subst, ◌∙◌, ◌-◌, List, arith, WindowState, Tile, next_in, HasTileAt}
use Rattle.best_fit.proofs.Common.{EncodesTiles}
use Rattle.best_fit.proofs.tile_walk.Walk.{left_goes_on, left_next}
use Rattle.best_fit.proofs.tile_walk.Hints.{Beyond, beyond_next, beyond_other, left_behind, used_is_live}
use Rattle.best_fit.proofs.tags.Writes.{block_tile, live_block}
use Rattle.best_fit.proofs.passing.block_behind.Goals as goal

pub overflow_sub-handle : goal.overflow_sub-handle
overflow_sub-handle c =
    let b = live_block c.args.touches.now.gaps.now.window c.args.handle c.requires.heap c.requires.live in
    let o = b.at in omega arith

pub next-requires-clause-tile : goal.next-requires-clause-tile
next-requires-clause-tile c =
    let w = c.args.touches.now.gaps.now.window in let h = c.args.handle in
    let b = live_block w h c.requires.heap c.requires.live in block_tile w h (h - 16) b (omega arith)

pub overflow_add-result : goal.overflow_add-result
overflow_add-result c =
    let w = c.args.touches.now.gaps.now.window in let h = c.args.handle in let t = c.in_ok-behind.behind in
    let n = left_next w c.next.result (Beyond w h) (left_behind w h c.requires.heap c.requires.live c.next.result
    c.next.ensures.tile) t c.in_ok-behind.was in
    let within = n.meets.within in let size = n.meets.size in omega arith

pub returns-then-is_some-clause-block : goal.returns-then-is_some-clause-block
returns-then-is_some-clause-block c =
    let w = c.args.touches.now.gaps.now.window in let h = c.args.handle in let t = c.in_ok-behind.behind in
    let n = left_next w c.next.result (Beyond w h) (left_behind w h c.requires.heap c.requires.live c.next.result
    c.next.ensures.tile) t c.in_ok-behind.was in
    (beyond_other w h t n.back n.holds, used_is_live w (Beyond w h) t n (sym c.is_some.ensures ∙ c.if-is_some.true))

pub next-requires-2-clause-tile : goal.next-requires-2-clause-tile
next-requires-2-clause-tile c =
    let w = c.args.touches.now.gaps.now.window in let h = c.args.handle in let t = c.in_ok-behind.behind in
    let n = left_next w c.next.result (Beyond w h) (left_behind w h c.requires.heap c.requires.live c.next.result
    c.next.ensures.tile) t c.in_ok-behind.was in
    let e : w ≡ c.next.new.self.gaps.now.window = cc in subst (λ (v : WindowState). HasTileAt v t.offset) e n.meets.has

pub overflow_add-result-then-is_some-2 : goal.overflow_add-result-then-is_some-2
overflow_add-result-then-is_some-2 c =
    let w = c.args.touches.now.gaps.now.window in let h = c.args.handle in let t = c.in_ok-behind.behind in
    let u = c.in_ok-behind-2.behind in
    let n = left_next w c.next.result (Beyond w h) (left_behind w h c.requires.heap c.requires.live c.next.result
    c.next.ensures.tile) t c.in_ok-behind.was in
    let e : c.next.new.self.gaps.now.window ≡ w = cc in
    let is = subst (λ (v : WindowState). (ts : List Tile) → EncodesTiles v ts → c.next-2.result ≡ next_in ts t.offset) e
    c.next-2.ensures.tile in
    let m = left_next w c.next-2.result (Beyond w h) (left_goes_on w (Beyond w h) (Beyond w h) t n c.next-2.result is
    (beyond_next w h t n.back n.holds)) u c.in_ok-behind-2.was in
    let within = m.meets.within in let size = m.meets.size in omega arith

pub returns-then-is_some-2-clause-block : goal.returns-then-is_some-2-clause-block
returns-then-is_some-2-clause-block c =
    let w = c.args.touches.now.gaps.now.window in let h = c.args.handle in let t = c.in_ok-behind.behind in
    let u = c.in_ok-behind-2.behind in
    let n = left_next w c.next.result (Beyond w h) (left_behind w h c.requires.heap c.requires.live c.next.result
    c.next.ensures.tile) t c.in_ok-behind.was in
    let e : c.next.new.self.gaps.now.window ≡ w = cc in
    let is = subst (λ (v : WindowState). (ts : List Tile) → EncodesTiles v ts → c.next-2.result ≡ next_in ts t.offset) e
    c.next-2.ensures.tile in
    let m = left_next w c.next-2.result (Beyond w h) (left_goes_on w (Beyond w h) (Beyond w h) t n c.next-2.result is
    (beyond_next w h t n.back n.holds)) u c.in_ok-behind-2.was in
    (beyond_other w h u m.back m.holds, used_is_live w (Beyond w h) u m (sym c.is_some-2.ensures ∙ c.if-is_some-2.true))
