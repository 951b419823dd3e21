use Rattle.image_check.proofs.Common.{arith, tag_rates}
use Rattle.image_check.proofs.walks.Counts.{counted-few}
use Rattle.image_check.proofs.budget.Visits.{two-for-tile, within-all, within-more, within-none}
use Rattle.image_check.proofs.walks.OneTile.{read-at, read-met, read-nearer}
use Rattle.image_check.proofs.walks.Tiles.{at-meets, tags-IsTiledWindow, walk-end, walk-on, walk-start}
use Rattle.image_check.proofs.free_tree.count_tiles.Goals as goal

pub first-tile-requires : goal.first-tile-requires
first-tile-requires c = tags-IsTiledWindow c.args.window.now c.requires.tiles.size c.requires.tiles.tags

pub tiles-init : goal.tiles-init
tiles-init c =
    let w = c.args.window.now in
    walk-start w _ c.first-tile.result (tags-IsTiledWindow w c.requires.tiles.size c.requires.tiles.tags)
    c.first-tile.ensures
    (c.new-counts.ensures, within-none tag_rates _)

pub add-requires-clause-free : goal.add-requires-clause-free
add-requires-clause-free c =
    let w = c.args.window.now in
    let a = read-at w _ c.tiles.tile c.in-Some.unread c.read-one.result c.tiles.invariant c.in-Some.is
    c.read-one.ensures.tile in
    (counted-few w _ c.read-one.result c.tiles.counts c.requires.tiles.size a a.kept.0).0

pub add-requires-clause-usage : goal.add-requires-clause-usage
add-requires-clause-usage c =
    let w = c.args.window.now in
    let a = read-at w _ c.tiles.tile c.in-Some.unread c.read-one.result c.tiles.invariant c.in-Some.is
    c.read-one.ensures.tile in
    (counted-few w _ c.read-one.result c.tiles.counts c.requires.tiles.size a a.kept.0).1

pub next-tile-requires : goal.next-tile-requires
next-tile-requires c =
    (read-met c.args.window.now _ c.tiles.tile c.in-Some.unread c.read-one.result c.tiles.invariant c.in-Some.is
    c.read-one.ensures.tile).has

pub tiles-smaller : goal.tiles-smaller
tiles-smaller c =
    read-nearer c.args.window.now _ c.tiles.tile c.in-Some.unread c.read-one.result c.tiles.invariant c.in-Some.is
    c.read-one.ensures.tile c.next-tile.result c.next-tile.ensures

pub tiles-preserved : goal.tiles-preserved
tiles-preserved c =
    let w = c.args.window.now in
    let here = c.read-one.result in
    let a = read-at w _ c.tiles.tile c.in-Some.unread here c.tiles.invariant c.in-Some.is c.read-one.ensures.tile in
    let two = two-for-tile here.use_of here.len (at-meets w _ here a).long in
    let one = c.read-one.ensures.visits in
    walk-on w _ _ here c.next-tile.result a c.next-tile.ensures (λ front k. (
      c.add.ensures front k.0,
      within-more tag_rates _ c.tiles.visits _ front here k.1 (omega arith) (omega arith),
    ))

pub returns-clause-steps_lower : goal.returns-clause-steps_lower
returns-clause-steps_lower c = (walk-end c.args.window.now _ c.tiles.tile c.tiles.invariant c.in_default.not-Some).0

pub returns-clause-visits : goal.returns-clause-visits
returns-clause-visits c = within-all c.args.window.now.bytes tag_rates _ _
    (walk-end c.args.window.now _ c.tiles.tile c.tiles.invariant c.in_default.not-Some).1
