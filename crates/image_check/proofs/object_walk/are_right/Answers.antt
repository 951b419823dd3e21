-- Each turn of the walk passes one tile in use.
use Rattle.image_check.proofs.Common.{List, Memory, None, Tile, WindowState, ap, arith, bytes_of, cond-false, frame_of}
use Rattle.image_check.proofs.Common.{inl, is_object_tile, is_right_tile, is_use, length, list_all, object_walk_rates}
use Rattle.image_check.proofs.Common.{rate_of, refl, said_row, sym, tiles_are_read_off, true, weigh, ℕ, ◌*◌, ◌++◌, ◌+◌}
use Rattle.image_check.proofs.Common.{◌-◌, ◌/◌, ◌∙◌, ◌∷◌, ◌≡◌, ◌≤◌}
use Rattle.block_tags.specs.declared.tile.Role.TheVariants.{Object}
use Rattle.image_check.proofs.block_collection.Places.{InRow, in_row}
use Rattle.image_check.proofs.bytes.Members.{mem_right}
use Rattle.image_check.proofs.walks.Rows.{PassesGaps, RowAt, free-object, recoloured, row-at, rows-end, rows-on}
use Rattle.image_check.proofs.walks.Rows.{rows-start}
use Rattle.image_check.proofs.walks.Tiles.{all-more, fails-there, tags-IsTiledWindow}
use Rattle.image_check.proofs.walks.Weights.{weigh-front, weigh-more}
use Rattle.image_check.proofs.object_walk.are_right.Goals.{After-row-payload}
use Rattle.image_check.proofs.object_walk.are_right.Goals as goal

-- the property of the passed tiles after the walk
abbrev Kept : ℕ → WindowState → ℕ → ℕ → List Tile → Type 0
Kept format w before visits ts = (list_all (is_right_tile format (bytes_of w.bytes)) ts ≡ true) × (before ≤ visits)
    × (visits ≤ before + weigh object_walk_rates ts)

free-right : (format : ℕ) (m : Memory) (t : Tile) → t.use_of ≡ None → is_right_tile format m t ≡ true
free-right format m t e =
    cond-false (is_use Object t) (is_object_tile format m t) true (free-object t e)

gaps : (format : ℕ) (w : WindowState) (before visits : ℕ) → PassesGaps w (Kept format w before visits)
gaps format w before visits g u a =
    let more = weigh-more object_walk_rates a.front g in
    let most = a.kept.2 in (
      all-more (is_right_tile format (bytes_of w.bytes)) a.front g a.kept.0 (free-right format (bytes_of w.bytes) g u),
      a.kept.1,
      omega arith,
    )

-- the test and the cost of a tile depend on its offset, its length and its use
right-same : (format : ℕ) (m : Memory) (t u : Tile) → t.offset ≡ u.offset → t.len ≡ u.len → t.use_of ≡ u.use_of
    → is_right_tile format m t ≡ is_right_tile format m u
right-same format m t u e f g = ap (is_right_tile format m) (recoloured t u e f g)

cost-same : (t u : Tile) → t.len ≡ u.len → t.use_of ≡ u.use_of
    → rate_of object_walk_rates t.use_of * (t.len / 16) ≡ rate_of object_walk_rates u.use_of * (u.len / 16)
cost-same t u f g = λ i. rate_of object_walk_rates (g i) * (f i / 16)

row : (c : After-row-payload) → RowAt c.args.window.now (Kept c.args.format c.args.window.now c.args.visits.now
    c.rows.visits) c.rows.number (frame_of c.row-payload.result)
row c =
    let w = c.args.window.now in
    row-at w (Kept c.args.format w c.args.visits.now c.rows.visits)
    (gaps c.args.format w c.args.visits.now c.rows.visits) c.args.blocks.now.entries c.requires.rows c.rows.number
    c.rows.invariant
    c.row-payload.result c.row-payload.ensures.row

place : (c : After-row-payload) → InRow 128 (length c.args.window.now.bytes - 16) (row c).here
place c =
    let w = c.args.window.now in
    let r = row c in
    in_row 128 (r.at.front ++ r.here ∷ r.at.back) (length w.bytes - 16) r.here
    (said_row w (r.at.front ++ r.here ∷ r.at.back) r.at.said) (mem_right r.here r.at.front (r.here ∷ r.at.back)
    (inl refl))

pub rows-init : goal.rows-init
rows-init c =
    let w = c.args.window.now in
    rows-start w (Kept c.args.format w c.args.visits.now c.args.visits.now)
    (tags-IsTiledWindow w c.requires.tiles.size c.requires.tiles.tags) (refl, omega arith, omega arith)

pub tile_of-tile-requires : goal.tile_of-tile-requires
tile_of-tile-requires c = let at = (row (goal.at.tile_of-tile-requires c).After-row-payload).place in omega arith

pub is_right-requires-clause-min_len : goal.is_right-requires-clause-min_len
is_right-requires-clause-min_len c =
    let k = (goal.at.is_right-requires-clause-min_len c).After-row-payload in
    let long = (place k).long in
    let same = (row k).len in
    let len = c.tile_of-tile.ensures.len in
    omega arith

pub is_right-requires-clause-in_bounds : goal.is_right-requires-clause-in_bounds
is_right-requires-clause-in_bounds c =
    let k = (goal.at.is_right-requires-clause-in_bounds c).After-row-payload in
    let high = (place k).high in
    let same = (row k).len in
    let len = c.tile_of-tile.ensures.len in
    let at = (row k).place in
    let there = c.tile_of-tile.ensures.place in
    omega arith

pub returns-then-not-is_right-clause-verdict : goal.returns-then-not-is_right-clause-verdict
returns-then-not-is_right-clause-verdict c =
    let w = c.args.window.now in
    let m = bytes_of w.bytes in
    let r = row (goal.at.returns-then-not-is_right-clause-verdict c).After-row-payload in
    let t = c.tile_of-tile.result in
    let at = r.place in
    let there = c.tile_of-tile.ensures.place in
    let wrong = right-same c.args.format m r.here t (omega arith) (r.len ∙ sym c.tile_of-tile.ensures.len)
    (r.use_of ∙ sym c.tile_of-tile.ensures.usage) ∙ sym c.is_right.ensures.test ∙ c.if-not-is_right.true in
    fails-there w _ (is_right_tile c.args.format m) r.here c.row-payload.result.0 r.at r.at.kept.0 wrong at

pub returns-then-not-is_right-clause-visits : goal.returns-then-not-is_right-clause-visits
returns-then-not-is_right-clause-visits c =
    let w = c.args.window.now in
    let r = row (goal.at.returns-then-not-is_right-clause-visits c).After-row-payload in
    let t = c.tile_of-tile.result in
    let cost = cost-same r.here t (r.len ∙ sym c.tile_of-tile.ensures.len)
    (r.use_of ∙ sym c.tile_of-tile.ensures.usage) in
    let all = ap (weigh object_walk_rates) (tiles_are_read_off w (r.at.front ++ r.here ∷ r.at.back) r.at.said) in
    let part = weigh-front object_walk_rates r.at.front r.here r.at.back in
    let k = r.at.kept in
    let s = c.is_right.ensures.visits c.rows.visits c.row-payload.ensures.visits in
    (omega arith, omega arith)

pub rows-preserved : goal.rows-preserved
rows-preserved c =
    let w = c.args.window.now in
    let m = bytes_of w.bytes in
    let r = row (goal.at.rows-preserved c).After-row-payload in
    let t = c.tile_of-tile.result in
    let at = r.place in
    let there = c.tile_of-tile.ensures.place in
    let right = right-same c.args.format m r.here t (omega arith) (r.len ∙ sym c.tile_of-tile.ensures.len)
    (r.use_of ∙ sym c.tile_of-tile.ensures.usage) ∙ sym c.is_right.ensures.test ∙ c.if-not-is_right.false in
    let cost = cost-same r.here t (r.len ∙ sym c.tile_of-tile.ensures.len)
    (r.use_of ∙ sym c.tile_of-tile.ensures.usage) in
    let more = weigh-more object_walk_rates r.at.front r.here in
    let s = c.is_right.ensures.visits c.rows.visits c.row-payload.ensures.visits in
    let k = r.at.kept in
    rows-on w (Kept c.args.format w c.args.visits.now c.rows.visits)
    (Kept c.args.format w c.args.visits.now c.is_right.new.visits) c.rows.number (frame_of c.row-payload.result) r
    (all-more (is_right_tile c.args.format m) r.at.front r.here r.at.kept.0 right, omega arith, omega arith)

pub returns-clause-verdict : goal.returns-clause-verdict
returns-clause-verdict c =
    let w = c.args.window.now in
    let all = rows-end w (Kept c.args.format w c.args.visits.now c.rows.visits)
    (gaps c.args.format w c.args.visits.now c.rows.visits) c.args.blocks.now.entries c.requires.rows c.rows.number
    c.rows.invariant (omega arith) in
    all.0

pub returns-clause-visits : goal.returns-clause-visits
returns-clause-visits c =
    let w = c.args.window.now in
    let k = rows-end w (Kept c.args.format w c.args.visits.now c.rows.visits)
    (gaps c.args.format w c.args.visits.now c.rows.visits) c.args.blocks.now.entries c.requires.rows c.rows.number
    c.rows.invariant (omega arith) in
    (k.1, omega (arith, k.2))
