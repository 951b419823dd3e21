use Rattle.image_check.proofs.Common.{List, Tile, ap, arith, false, is_planted, list_all, nodes_of, planting_rates}
use Rattle.image_check.proofs.Common.{refl, sym, tiles_are_read_off, true, ◌++◌, ◌∙◌, ◌∷◌, ◌≡◌}
use Rattle.image_check.proofs.walks.Counts.{counted-few}
use Rattle.image_check.proofs.budget.Visits.{search-for-tile, within-all, within-more, within-none, within-stop}
use Rattle.image_check.proofs.walks.OneTile.{read-at, read-met, read-nearer}
use Rattle.image_check.proofs.walks.Tiles.{all-fails, all-more, at-meets, tags-IsTiledWindow, walk-end, walk-on}
use Rattle.image_check.proofs.walks.Tiles.{walk-start}
use Rattle.image_check.proofs.free_tree.Meaning.{at-len, at-place}
use Rattle.image_check.proofs.free_tree.count_planted.Goals as goal

pub first-tile-requires : goal.first-tile-requires
first-tile-requires c = tags-IsTiledWindow c.args.window.now c.requires.size c.requires.tags

pub tiles-init : goal.tiles-init
tiles-init c =
    let w = c.args.window.now in
    let tiled = tags-IsTiledWindow w c.requires.size c.requires.tags in (
      λ t s. walk-start w (λ (ts : List Tile). list_all (is_planted w (nodes_of t)) ts ≡ true) c.first-tile.result tiled
          c.first-tile.ensures refl,
      walk-start w _ c.first-tile.result tiled c.first-tile.ensures (
        c.new-counts.ensures,
        within-none planting_rates
            _,
      ),
    )

pub is_planted-requires-clause-place : goal.is_planted-requires-clause-place
is_planted-requires-clause-place c =
    let w = c.args.window.now in
    at-place w _ c.read-here.result (read-at w _ c.tiles.tile c.in-Some.unread c.read-here.result c.tiles.invariant.1
    c.in-Some.is c.read-here.ensures.tile) c.requires.size

pub is_planted-requires-clause-len : goal.is_planted-requires-clause-len
is_planted-requires-clause-len c =
    let w = c.args.window.now in
    at-len w _ c.read-here.result (read-at w _ c.tiles.tile c.in-Some.unread c.read-here.result c.tiles.invariant.1
    c.in-Some.is c.read-here.ensures.tile)

pub returns-then-not-is_planted-clause-value : goal.returns-then-not-is_planted-clause-value
returns-then-not-is_planted-clause-value c t s =
    let w = c.args.window.now in
    let test = is_planted w (nodes_of t) in
    let a = read-at w (λ (ts : List Tile). list_all test ts ≡ true) c.tiles.tile c.in-Some.unread c.read-here.result
    (c.tiles.invariant.0 t s) c.in-Some.is c.read-here.ensures.tile in
    let all : list_all test (a.front ++ c.read-here.result ∷ a.back) ≡ false = all-fails test a.front c.read-here.result
    a.back (sym (c.is_planted.ensures.value t s) ∙ c.if-not-is_planted.true) in
    sym (ap (list_all test) (tiles_are_read_off w (a.front ++ c.read-here.result ∷ a.back) a.said) ∙ all)

pub returns-then-not-is_planted-clause-visits : goal.returns-then-not-is_planted-clause-visits
returns-then-not-is_planted-clause-visits c =
    let w = c.args.window.now in
    let here = c.read-here.result in
    let a = read-at w _ c.tiles.tile c.in-Some.unread here c.tiles.invariant.1 c.in-Some.is c.read-here.ensures.tile in
    let worth = search-for-tile here.use_of here.len (at-meets w _ here a).long in
    let one = c.read-here.ensures.visits in
    let less = c.is_planted.ensures.visits in
    let more = c.is_planted.ensures.visits_on_error in
    within-stop w planting_rates _ c.tiles.visits _ a.front here a.back a.said a.kept.1 (omega arith) (omega arith)

pub add-requires-clause-free : goal.add-requires-clause-free
add-requires-clause-free c =
    let w = c.args.window.now in
    let a = read-at w _ c.tiles.tile c.in-Some.unread c.read-here.result c.tiles.invariant.1 c.in-Some.is
    c.read-here.ensures.tile in
    (counted-few w _ c.read-here.result c.tiles.counts c.requires.size a a.kept.0).0

pub add-requires-clause-usage : goal.add-requires-clause-usage
add-requires-clause-usage c =
    let w = c.args.window.now in
    let a = read-at w _ c.tiles.tile c.in-Some.unread c.read-here.result c.tiles.invariant.1 c.in-Some.is
    c.read-here.ensures.tile in
    (counted-few w _ c.read-here.result c.tiles.counts c.requires.size a a.kept.0).1

pub next-tile-requires : goal.next-tile-requires
next-tile-requires c =
    (read-met c.args.window.now _ c.tiles.tile c.in-Some.unread c.read-here.result c.tiles.invariant.1 c.in-Some.is
    c.read-here.ensures.tile).has

pub tiles-smaller : goal.tiles-smaller
tiles-smaller c =
    read-nearer c.args.window.now _ c.tiles.tile c.in-Some.unread c.read-here.result c.tiles.invariant.1 c.in-Some.is
    c.read-here.ensures.tile c.next-tile.result c.next-tile.ensures

pub tiles-preserved : goal.tiles-preserved
tiles-preserved c =
    let w = c.args.window.now in
    let here = c.read-here.result in
    let a = read-at w _ c.tiles.tile c.in-Some.unread here c.tiles.invariant.1 c.in-Some.is c.read-here.ensures.tile in
    let worth = search-for-tile here.use_of here.len (at-meets w _ here a).long in
    let one = c.read-here.ensures.visits in
    let less = c.is_planted.ensures.visits in
    let more = c.is_planted.ensures.visits_on_error in (
      λ t s.
          let test = is_planted w (nodes_of t) in
          let kept = λ (ts : List Tile). list_all test ts ≡ true in
          walk-on w kept kept here c.next-tile.result (read-at w kept c.tiles.tile c.in-Some.unread here
          (c.tiles.invariant.0 t s) c.in-Some.is c.read-here.ensures.tile) c.next-tile.ensures
          (λ front k. all-more test front here k (sym (c.is_planted.ensures.value t s) ∙ c.if-not-is_planted.false)),
      walk-on w _ _ here c.next-tile.result a c.next-tile.ensures
          (λ front k. (
            c.add.ensures front k.0,
            within-more planting_rates _ c.tiles.visits _ front here k.1
                (omega arith) (omega arith),
          )),
    )

pub returns-clause-value : goal.returns-clause-value
returns-clause-value c t s =
    let w = c.args.window.now in
    sym (walk-end w (λ (ts : List Tile). list_all (is_planted w (nodes_of t)) ts ≡ true) c.tiles.tile
    (c.tiles.invariant.0 t s) c.in_default.not-Some)

pub returns-clause-steps_lower : goal.returns-clause-steps_lower
returns-clause-steps_lower c = (walk-end c.args.window.now _ c.tiles.tile c.tiles.invariant.1 c.in_default.not-Some).0

pub returns-clause-visits : goal.returns-clause-visits
returns-clause-visits c =
    within-all c.args.window.now.bytes planting_rates _ _
    (walk-end c.args.window.now _ c.tiles.tile c.tiles.invariant.1 c.in_default.not-Some).1
