-- Each turn of the walk passes one tile, and makes its links null where it is a gap.
use Rattle.best_fit.proofs.Common.{ap, ◌∙◌, not, arith, length, WindowState, tiles_in}
use Rattle.best_fit.proofs.free_tree.EmptyTree.{Cleared, LinkPlace, cleared_block, cleared_gap, cleared_start, emptied}
use Rattle.best_fit.proofs.free_tree.EmptyTree.{emptied_rest, link_place, tagged_says}
use Rattle.best_fit.proofs.free_tree.WalkTurns.{Passed, passed_goes_on, passed_has, passed_in, passed_nearer, walk_end}
use Rattle.best_fit.proofs.free_tree.WalkTurns.{walk_start}
use Rattle.best_fit.proofs.tile_walk.Walk.{turn}
use Rattle.best_fit.proofs.heap.free_tree_build.clear_gaps.Goals.{In-Some, Joined-is_none, then-is_none, else-is_none}
use Rattle.best_fit.proofs.heap.free_tree_build.clear_gaps.Goals as goal

pub first-ahead-requires : goal.first-ahead-requires
first-ahead-requires c =
    let w = c.args.window.now in
    record { tiles = tiles_in w; said = (tagged_says w c.requires.size c.requires.tags).said }

pub tiles-init : goal.tiles-init
tiles-init c =
    let w = c.args.window.now in
    walk_start w (Cleared w w) (tiles_in w) (tagged_says w c.requires.size c.requires.tags).said (cleared_start w)
    c.first-ahead.result c.first-ahead.ensures

-- the links of the tile lie in the window
links : (c : In-Some) → LinkPlace c.tiles.window c.in-Some.tile.offset
links c =
    let w = c.args.window.now in let now = c.tiles.window in
    link_place w now c.in-Some.tile (turn now (Cleared w now) c.tiles.ahead c.tiles.invariant c.in-Some.tile
    c.in-Some.is)

pub overflow_add-tile : goal.overflow_add-tile
overflow_add-tile c = let small = (links (goal.at.overflow_add-tile c).In-Some).small in omega arith

pub clear-requires-clause-aligned : goal.clear-requires-clause-aligned
clear-requires-clause-aligned c = let whole = (links (goal.at.clear-requires-clause-aligned c).In-Some).whole
    in omega arith

pub clear-requires-clause-max_size : goal.clear-requires-clause-max_size
clear-requires-clause-max_size c = let small = (links (goal.at.clear-requires-clause-max_size c).In-Some).small
    in omega arith

pub clear-requires-clause-in_bounds : goal.clear-requires-clause-in_bounds
clear-requires-clause-in_bounds c = let inside = (links (goal.at.clear-requires-clause-in_bounds c).In-Some).inside
    in omega arith

passed : (c : Joined-is_none) → Passed c.if-is_none.window (Cleared c.args.window.now c.if-is_none.window)
    c.in-Some.tile.offset
passed c =
    let w = c.args.window.now in let now = c.tiles.window in let next = c.if-is_none.window in
    let tile = c.in-Some.tile in
    let t = turn now (Cleared w now) c.tiles.ahead c.tiles.invariant tile c.in-Some.is in
    elim c.if-is_none.branch [
      | then-is_none v ↦
          let e = v.clear.ensures in let out = v.clear.new.window in
          passed_in (λ (x : WindowState). Cleared w x) tile.offset out next v.window-is
          (cleared_gap w now out tile t (tagged_says w c.requires.size c.requires.tags) (c.is_none.ensures
          ∙ ap not v.if-is_none.true) e.remainder e.right e.size e.place e.frame)
      | else-is_none v ↦ cleared_block w now next tile t (c.is_none.ensures ∙ ap not v.if-is_none.false) v.window-is
    ]

pub next-ahead-requires : goal.next-ahead-requires
next-ahead-requires c =
    let next = c.if-is_none.window in
    passed_has next (Cleared c.args.window.now next) c.in-Some.tile.offset
    (passed (goal.at.next-ahead-requires c).Joined-is_none)

pub tiles-smaller : goal.tiles-smaller
tiles-smaller c =
    let w = c.args.window.now in let next = c.if-is_none.window in
    let p = passed (goal.at.tiles-smaller c).Joined-is_none in
    passed_nearer next (Cleared w next) (length w.bytes) c.in-Some.tile p p.holds.size c.tiles.ahead
    c.next-ahead.result c.in-Some.is c.next-ahead.ensures

pub tiles-preserved : goal.tiles-preserved
tiles-preserved c =
    let w = c.args.window.now in let next = c.if-is_none.window in
    passed_goes_on next (Cleared w next) c.in-Some.tile.offset (passed (goal.at.tiles-preserved c).Joined-is_none)
    c.next-ahead.result c.next-ahead.ensures

pub returns-clause-tree : goal.returns-clause-tree
returns-clause-tree c =
    let w = c.args.window.now in let now = c.tiles.window in let new = c.set_link.new.window in
    let e = c.set_link.ensures in
    let end = walk_end now (Cleared w now) c.tiles.ahead c.tiles.invariant c.in_default.is in
    emptied w now new (tagged_says w c.requires.size c.requires.tags) end e.link_target e.len e.place e.frame

pub returns-clause-frame : goal.returns-clause-frame
returns-clause-frame c =
    let w = c.args.window.now in let now = c.tiles.window in let new = c.set_link.new.window in
    let e = c.set_link.ensures in
    let end = walk_end now (Cleared w now) c.tiles.ahead c.tiles.invariant c.in_default.is in
    emptied_rest w now new (tagged_says w c.requires.size c.requires.tags) end e.link_target e.len e.place e.frame
