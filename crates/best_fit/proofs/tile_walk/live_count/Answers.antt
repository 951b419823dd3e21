-- Each turn of the walk passes one tile.
use Rattle.best_fit.proofs.Common.{arith, sym, subst, ◌∙◌, ℕ}
use Rattle.best_fit.proofs.tile_walk.Walk.{StillLive, left_start, left_next, left_goes_on, left_nearer, left_end}
use Rattle.best_fit.proofs.tile_walk.Walk.{live_few, live_more, live_same, live_start, window_tiled}
use Rattle.best_fit.proofs.tile_walk.live_count.Goals.{then-is_some, else-is_some}
use Rattle.best_fit.proofs.tile_walk.live_count.Goals as goal

pub first-ahead-requires : goal.first-ahead-requires
first-ahead-requires c = window_tiled c.args.window.now c.requires

pub tiles-init : goal.tiles-init
tiles-init c =
    let w = c.args.window.now in left_start w (StillLive w 0) c.requires c.first-ahead.result
    c.first-ahead.ensures (live_start w)

pub overflow_add-count : goal.overflow_add-count
overflow_add-count c =
    let w = c.args.window.now in let i = c.tiles.invariant in
    let few = live_few w c.tiles.count i.rest c.requires i.holds in omega arith

pub next-ahead-requires : goal.next-ahead-requires
next-ahead-requires c =
    let w = c.args.window.now in
    (left_next w c.tiles.ahead (StillLive w c.tiles.count) c.tiles.invariant c.in-Some.tile c.in-Some.is).meets.has

pub tiles-smaller : goal.tiles-smaller
tiles-smaller c =
    let w = c.args.window.now in
    let n = left_next w c.tiles.ahead (StillLive w c.tiles.count) c.tiles.invariant c.in-Some.tile c.in-Some.is in
    left_nearer w (StillLive w c.tiles.count) c.in-Some.tile n c.tiles.ahead c.next-ahead.result
    c.in-Some.is c.next-ahead.ensures

pub tiles-preserved : goal.tiles-preserved
tiles-preserved c =
    let w = c.args.window.now in let t = c.in-Some.tile in let k = c.tiles.count in
    let n = left_next w c.tiles.ahead (StillLive w k) c.tiles.invariant t c.in-Some.is in
    left_goes_on w (StillLive w k) (StillLive w c.if-is_some.count) t n c.next-ahead.result c.next-ahead.ensures
    (elim c.if-is_some.branch [
      | then-is_some v ↦ subst (λ (m : ℕ). StillLive w m n.back) (sym v.count-is)
          (live_more w k t n.back n.holds (sym c.is_some.ensures ∙ v.if-is_some.true))
      | else-is_some v ↦ subst (λ (m : ℕ). StillLive w m n.back) (sym v.count-is)
          (live_same w k t n.back n.holds (sym c.is_some.ensures ∙ v.if-is_some.false))
    ])

pub returns : goal.returns
returns c =
    let w = c.args.window.now in let all = left_end w c.tiles.ahead (StillLive w c.tiles.count) c.tiles.invariant
    c.in_default.is in omega arith
