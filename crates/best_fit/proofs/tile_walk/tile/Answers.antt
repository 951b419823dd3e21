-- Each turn of the walk passes one tile.
use Rattle.best_fit.proofs.Common.{◌+◌, ◌∙◌, arith}
use Rattle.best_fit.proofs.tile_walk.Walk.{StillAt, left_start, left_next, left_goes_on, left_end, index_found}
use Rattle.best_fit.proofs.tile_walk.Walk.{index_passed, index_start, window_tiled}
use Rattle.best_fit.proofs.tile_walk.tile.Goals as goal

pub first-ahead-requires : goal.first-ahead-requires
first-ahead-requires c = window_tiled c.args.window.now c.requires

pub tiles-init : goal.tiles-init
tiles-init c =
    let w = c.args.window.now in left_start w (StillAt w 0 c.args.index) c.requires c.first-ahead.result
    c.first-ahead.ensures (index_start w c.args.index)

pub returns-in_err-ahead : goal.returns-in_err-ahead
returns-in_err-ahead c =
    let w = c.args.window.now in c.from_residual.ensures
    ∙ left_end w c.tiles.ahead (StillAt w c.tiles.counter c.args.index) c.tiles.invariant c.in_err-ahead.was

pub next-ahead-requires : goal.next-ahead-requires
next-ahead-requires c =
    let w = c.args.window.now in
    (left_next w c.tiles.ahead (StillAt w c.tiles.counter c.args.index) c.tiles.invariant c.in_ok-ahead.field-0
    c.in_ok-ahead.was).meets.has

pub tiles-preserved : goal.tiles-preserved
tiles-preserved c =
    let w = c.args.window.now in let k = c.tiles.counter in let t = c.in_ok-ahead.field-0 in
    let n = left_next w c.tiles.ahead (StillAt w k c.args.index) c.tiles.invariant t c.in_ok-ahead.was in
    left_goes_on w (StillAt w k c.args.index) (StillAt w (k + 1) c.args.index) t n c.next-ahead.result
    c.next-ahead.ensures (index_passed w k c.args.index t n.back n.holds c.tiles-test.true)

pub returns : goal.returns
returns c = index_found c.args.window.now c.tiles.ahead c.tiles.counter c.args.index (omega arith) c.tiles.invariant
