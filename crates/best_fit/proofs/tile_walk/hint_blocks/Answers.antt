-- Each turn of the walk passes one tile.
use Rattle.best_fit.proofs.Common.{sym, subst, ◌∙◌, ◌+◌, List, arith, Tile, BlockHints, LeadToBlocks}
use Rattle.best_fit.proofs.tile_walk.Walk.{left_start, left_next, left_goes_on, left_nearer, window_tiled}
use Rattle.best_fit.proofs.tile_walk.Hints.{noted-lead, used_is_live}
use Rattle.best_fit.proofs.tile_walk.hint_blocks.Goals.{then-is_some, else-is_some}
use Rattle.best_fit.proofs.tile_walk.hint_blocks.Goals as goal

pub first-ahead-requires : goal.first-ahead-requires
first-ahead-requires c = window_tiled c.args.window.now c.requires.heap

pub tiles-init : goal.tiles-init
tiles-init c =
    let w = c.args.window.now in (
      left_start w (λ (ts : List Tile). Unit {0}) c.requires.heap c.first-ahead.result c.first-ahead.ensures tt,
      c.requires.hints,
    )

pub overflow_add-tile : goal.overflow_add-tile
overflow_add-tile c =
    let w = c.args.window.now in
    let n = left_next w c.tiles.ahead (λ (ts : List Tile). Unit {0}) c.tiles.invariant.0 c.in-Some.tile c.in-Some.is in
    let within = n.meets.within in let size = n.meets.size in omega arith

pub next-ahead-requires : goal.next-ahead-requires
next-ahead-requires c =
    let w = c.args.window.now in
    (left_next w c.tiles.ahead (λ (ts : List Tile). Unit {0}) c.tiles.invariant.0 c.in-Some.tile c.in-Some.is).meets.has

pub tiles-smaller : goal.tiles-smaller
tiles-smaller c =
    let w = c.args.window.now in
    let n = left_next w c.tiles.ahead (λ (ts : List Tile). Unit {0}) c.tiles.invariant.0 c.in-Some.tile c.in-Some.is in
    left_nearer w (λ (ts : List Tile). Unit {0}) c.in-Some.tile n c.tiles.ahead c.next-ahead.result
    c.in-Some.is c.next-ahead.ensures

pub tiles-preserved : goal.tiles-preserved
tiles-preserved c =
    let w = c.args.window.now in let t = c.in-Some.tile in
    let n = left_next w c.tiles.ahead (λ (ts : List Tile). Unit {0}) c.tiles.invariant.0 t c.in-Some.is in (
      left_goes_on w (λ (ts : List Tile). Unit {0}) (λ (ts : List Tile). Unit {0}) t n c.next-ahead.result
          c.next-ahead.ensures tt,
      elim c.if-is_some.branch [
        | then-is_some v ↦
            subst (λ (p : BlockHints). LeadToBlocks p w.bytes) (sym v.hints-is)
            (noted-lead c.tiles.hints v.insert.new.self w.bytes (t.offset + 16) c.tiles.invariant.1
            (used_is_live w (λ (ts : List Tile). Unit {0}) t n (sym c.is_some.ensures ∙ v.if-is_some.true))
            v.insert.ensures)
        | else-is_some v ↦ subst (λ (p : BlockHints). LeadToBlocks p w.bytes) (sym v.hints-is) c.tiles.invariant.1
      ],
    )

pub returns : goal.returns
returns c = c.tiles.invariant.1
