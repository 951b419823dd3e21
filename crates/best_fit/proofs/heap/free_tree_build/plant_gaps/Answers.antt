-- Each turn of the walk passes one tile, and puts it into the tree where it is a gap.
use Rattle.best_fit.proofs.Common.{ap, ◌∙◌, not, refl, [], arith, length, WindowState, GapTree, gap_of, gaps_of}
use Rattle.best_fit.proofs.Common.{tiles_in}
use Rattle.best_fit.proofs.free_tree.Rebuild.{HasPlanted, next_gap, planted_all, planted_block, planted_gap}
use Rattle.best_fit.proofs.free_tree.Rebuild.{planted_start}
use Rattle.best_fit.proofs.gaps.LinksOnly.{tree_says}
use Rattle.best_fit.proofs.free_tree.WalkTurns.{Passed, passed_goes_on, passed_has, passed_in, passed_nearer, walk_end}
use Rattle.best_fit.proofs.free_tree.WalkTurns.{walk_start}
use Rattle.best_fit.proofs.tile_walk.Walk.{turn}
use Rattle.best_fit.proofs.heap.free_tree_build.plant_gaps.Goals.{Joined-is_none, then-is_none, else-is_none}
use Rattle.best_fit.proofs.heap.free_tree_build.plant_gaps.Goals as goal

pub first-ahead-requires : goal.first-ahead-requires
first-ahead-requires c = let w = c.args.gaps.now.window in
    record { tiles = tiles_in w; said = (tree_says w [] c.requires).said }

pub tiles-init : goal.tiles-init
tiles-init c =
    let w = c.args.gaps.now.window in
    walk_start w (HasPlanted w w) (tiles_in w) (tree_says w [] c.requires).said (planted_start w c.requires)
    c.first-ahead.result c.first-ahead.ensures

pub overflow_add-tile : goal.overflow_add-tile
overflow_add-tile c =
    let w = c.args.gaps.now.window in let now = c.tiles.gaps.window in
    let m = (turn now (HasPlanted w now) c.tiles.ahead c.tiles.invariant c.in-Some.tile c.in-Some.is).meets in
    let within = m.within in let size = m.size in let long = m.long in omega arith

pub plant-requires : goal.plant-requires
plant-requires c =
    let w = c.args.gaps.now.window in let now = c.tiles.gaps.window in let tile = c.in-Some.tile in
    let t = turn now (HasPlanted w now) c.tiles.ahead c.tiles.invariant tile c.in-Some.is in
    (gaps_of t.passed, gap_of tile, refl, next_gap w now tile t (c.is_none.ensures ∙ ap not c.if-is_none.true))

passed : (c : Joined-is_none)
    → Passed c.if-is_none.gaps.window (HasPlanted c.args.gaps.now.window c.if-is_none.gaps.window) c.in-Some.tile.offset
passed c =
    let w = c.args.gaps.now.window in let now = c.tiles.gaps.window in let next = c.if-is_none.gaps.window in
    let tile = c.in-Some.tile in
    let t = turn now (HasPlanted w now) c.tiles.ahead c.tiles.invariant tile c.in-Some.is in
    elim c.if-is_none.branch [
      | then-is_none v ↦
          let e = v.plant.ensures in let out = v.plant.new.gaps.window in let none = c.is_none.ensures
          ∙ ap not v.if-is_none.true in
          passed_in (λ (x : WindowState).
          HasPlanted w x) tile.offset out next (ap (λ (g : GapTree). g.window) v.gaps-is)
          (planted_gap w now tile t none out
          (e.tree (gaps_of t.passed) (gap_of tile) refl (next_gap w now tile t none)) e.frame)
      | else-is_none v ↦ planted_block w now next tile t (c.is_none.ensures ∙ ap not v.if-is_none.false)
          (ap (λ (g : GapTree). g.window) v.gaps-is)
    ]

pub next-ahead-requires : goal.next-ahead-requires
next-ahead-requires c =
    let next = c.if-is_none.gaps.window in
    passed_has next (HasPlanted c.args.gaps.now.window next) c.in-Some.tile.offset
    (passed (goal.at.next-ahead-requires c).Joined-is_none)

pub tiles-smaller : goal.tiles-smaller
tiles-smaller c =
    let w = c.args.gaps.now.window in let next = c.if-is_none.gaps.window in
    let p = passed (goal.at.tiles-smaller c).Joined-is_none in
    passed_nearer next (HasPlanted w next) (length w.bytes) c.in-Some.tile p p.holds.change.size c.tiles.ahead
    c.next-ahead.result c.in-Some.is c.next-ahead.ensures

pub tiles-preserved : goal.tiles-preserved
tiles-preserved c =
    let w = c.args.gaps.now.window in let next = c.if-is_none.gaps.window in
    passed_goes_on next (HasPlanted w next) c.in-Some.tile.offset (passed (goal.at.tiles-preserved c).Joined-is_none)
    c.next-ahead.result c.next-ahead.ensures

pub returns-clause-tree : goal.returns-clause-tree
returns-clause-tree c =
    let w = c.args.gaps.now.window in let now = c.tiles.gaps.window in
    planted_all w now (walk_end now (HasPlanted w now) c.tiles.ahead c.tiles.invariant c.in_default.is)
