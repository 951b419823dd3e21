-- Each turn of the walk passes one tile.
use Rattle.best_fit.proofs.Common.{sym, ◌+◌, ◌-◌, subst, arith, Option, ne_eqb, Tile}
use Rattle.best_fit.proofs.tile_walk.Walk.{Left, Next, StillNames, left_start, left_next, left_goes_on, left_nearer}
use Rattle.best_fit.proofs.tile_walk.Walk.{left_end, names_passed, names_start, window_tiled}
use Rattle.best_fit.proofs.tile_walk.Hints.{left_from, names_told, nearest_block}
use Rattle.best_fit.proofs.tags.Writes.{block_tile}
use Rattle.best_fit.proofs.tile_walk.is_reached.Goals.{In-Some-ahead, in-Some, in-None}
use Rattle.best_fit.proofs.tile_walk.is_reached.Goals as goal

pub overflow_sub-known : goal.overflow_sub-known
overflow_sub-known c =
    let n = nearest_block c.args.window.now c.args.hints.now c.args.handle c.in-Some.known c.requires
    c.nearest.result c.nearest.ensures c.in-Some.is in
    let b = n.block in let o = b.at in omega arith

pub tile_at-requires : goal.tile_at-requires
tile_at-requires c =
    let n = nearest_block c.args.window.now c.args.hints.now c.args.handle c.in-Some.known c.requires
    c.nearest.result c.nearest.ensures c.in-Some.is in
    let b = n.block in block_tile c.args.window.now c.in-Some.known (c.in-Some.known - 16) b (omega arith)

pub first-ahead-requires : goal.first-ahead-requires
first-ahead-requires c = window_tiled c.args.window.now c.requires.heap

pub tiles-init : goal.tiles-init
tiles-init c =
    let w = c.args.window.now in let h = c.args.handle in
    elim c.match-nearest.branch [
      | in-Some v ↦
          let n = nearest_block w c.args.hints.now h v.in-Some.known c.requires c.nearest.result
          c.nearest.ensures v.in-Some.is in
          subst (λ (o : Option Tile). Left w o (StillNames w h)) (sym v.ahead-is)
          (left_from w h v.in-Some.known c.requires.heap n.live n.near v.tile_at.result v.tile_at.ensures)
      | in-None v ↦
          subst (λ (o : Option Tile). Left w o (StillNames w h)) (sym v.ahead-is)
          (left_start w (StillNames w h) c.requires.heap v.first-ahead.result
          v.first-ahead.ensures (names_start w h))
    ]

-- the walk at its next tile
turn : (c : In-Some-ahead)
    → Next c.args.window.now (StillNames c.args.window.now c.args.handle) c.in-Some-ahead.tile
turn c = left_next c.args.window.now c.tiles.ahead (StillNames c.args.window.now c.args.handle) c.tiles.invariant
    c.in-Some-ahead.tile c.in-Some-ahead.is

pub overflow_add-tile : goal.overflow_add-tile
overflow_add-tile c =
    let m = (turn (goal.at.overflow_add-tile c).In-Some-ahead).meets in
    let within = m.within in let size = m.size in omega arith

pub overflow_add-tile-then-tile-handle : goal.overflow_add-tile-then-tile-handle
overflow_add-tile-then-tile-handle c =
    let m = (turn (goal.at.overflow_add-tile-then-tile-handle c).In-Some-ahead).meets in
    let within = m.within in let size = m.size in omega arith

pub returns-then-tile-handle-2 : goal.returns-then-tile-handle-2
returns-then-tile-handle-2 c =
    names_told c.args.window.now c.args.handle c.in-Some-ahead.tile
    (turn (goal.at.returns-then-tile-handle-2 c).In-Some-ahead) c.if-tile-handle.true c.is_some.result
    (λ e. c.is_some.ensures) (λ d. absurd (d c.if-tile-handle-2.true))

pub returns-else-tile-handle-2 : goal.returns-else-tile-handle-2
returns-else-tile-handle-2 c =
    let h = c.args.handle in let t = c.in-Some-ahead.tile in
    names_told c.args.window.now h t (turn (goal.at.returns-else-tile-handle-2 c).In-Some-ahead) c.if-tile-handle.true _
    (λ e. absurd (c.if-tile-handle-2.false e)) (λ d. ne_eqb (t.offset + 16) h d)

pub next-ahead-requires : goal.next-ahead-requires
next-ahead-requires c = (turn (goal.at.next-ahead-requires c).In-Some-ahead).meets.has

pub tiles-smaller : goal.tiles-smaller
tiles-smaller c =
    left_nearer c.args.window.now (StillNames c.args.window.now c.args.handle) c.in-Some-ahead.tile
    (turn (goal.at.tiles-smaller c).In-Some-ahead) c.tiles.ahead c.next-ahead.result c.in-Some-ahead.is
    c.next-ahead.ensures

pub tiles-preserved : goal.tiles-preserved
tiles-preserved c =
    let w = c.args.window.now in let h = c.args.handle in let t = c.in-Some-ahead.tile in
    let n = turn (goal.at.tiles-preserved c).In-Some-ahead in
    left_goes_on w (StillNames w h) (StillNames w h) t n c.next-ahead.result c.next-ahead.ensures
    (names_passed w h t n.back n.holds (λ e. omega arith))

pub returns : goal.returns
returns c = left_end c.args.window.now c.tiles.ahead (StillNames c.args.window.now c.args.handle)
    c.tiles.invariant c.in_default.is
