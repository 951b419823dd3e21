-- Each turn of the walk passes one tile in use.
use Rattle.image_check.proofs.Common.{Blocks, Spends, WindowState, arith, bytes_of, entries_of, frame_of, frames}
use Rattle.image_check.proofs.Common.{has_container}
use Rattle.image_check.proofs.Common.{sym, weigh, ℕ, ◌+◌, ◌∙◌, ◌≡◌, ◌≤◌}
use Rattle.image_check.specs.Containers.{container_walk_rates, weigh_blocks}
use Rattle.image_check.specs.Sharing.{state_of}
use Rattle.image_check.specs.Visits.{container_rates}
use Rattle.image_check.specs.Passes.{tiles_in}
use Rattle.image_check.proofs.containers.Walk.{IsHere, IsPaid, containers-same, is-here, lies-same, marked-followed}
use Rattle.image_check.proofs.containers.Walk.{marked-ready, paid-end, paid-gap, paid-more, paid-start, paid-stop}
use Rattle.image_check.proofs.containers.Walk.{pays-same, ready-same, test-same}
use Rattle.image_check.proofs.containers.Weights.{blocks-weigh, both-weigh, few-blocks}
use Rattle.image_check.proofs.walks.Rows.{RowAt, row-at, rows-end, rows-on, rows-start}
use Rattle.image_check.proofs.walks.Tiles.{fails-there, tags-IsTiledWindow}
use Rattle.image_check.proofs.containers.check_containers.Goals.{After-tile_of-tile}
use Rattle.image_check.proofs.containers.check_containers.Goals as goal

row : (c : After-tile_of-tile) → RowAt c.args.window.now
    (IsPaid c.args.format c.args.window.now c.args.owners.now.blocks.entries c.args.visits.now c.rows.visits)
    c.rows.number
    (frame_of c.row-payload.result)
row c =
    let w = c.args.window.now in
    row-at w _ (paid-gap c.args.format w c.args.owners.now.blocks.entries c.args.visits.now c.rows.visits)
    c.args.owners.now.blocks.entries c.requires.aligned.marking.frame c.rows.number c.rows.invariant
    c.row-payload.result
    c.row-payload.ensures.row

here : (c : After-tile_of-tile) → IsHere c.args.window.now (row c).here
here c = is-here c.args.window.now _ (row c).here c.requires.tiles (row c).at

-- the tile that is tested is the tile at its offset, except its colour
place : (c : After-tile_of-tile) → c.tile_of-tile.result.offset ≡ (row c).here.offset
place c = let at = (row c).place in let there = c.tile_of-tile.ensures.place in omega arith

len : (c : After-tile_of-tile) → c.tile_of-tile.result.len ≡ (row c).here.len
len c = c.tile_of-tile.ensures.len ∙ sym (row c).len

used : (c : After-tile_of-tile) → c.tile_of-tile.result.use_of ≡ (row c).here.use_of
used c = c.tile_of-tile.ensures.usage ∙ sym (row c).use_of

-- the visits of the walk are within the bound of the pass
within : (w : WindowState) (es : Blocks) (old new : ℕ) → frames es ≡ frames (entries_of (tiles_in w.bytes))
    → (old ≤ new) × (new ≤ old + (weigh container_walk_rates (tiles_in w.bytes) + weigh_blocks es))
    → Spends container_rates 20 w.bytes old new
within w es old new f p =
    let blocks = blocks-weigh (tiles_in w.bytes) es f in
    let both = both-weigh (tiles_in w.bytes) in
    (p.0, omega (arith, p.1))

pub rows-init : goal.rows-init
rows-init c =
    let w = c.args.window.now in
    let old = c.args.visits.now in
    rows-start w (IsPaid c.args.format w c.args.owners.now.blocks.entries old old)
    (tags-IsTiledWindow w c.requires.tiles.size c.requires.tiles.tags)
    (paid-start c.args.format w c.args.owners.now.blocks.entries old)

pub tile_of-tile-requires : goal.tile_of-tile-requires
tile_of-tile-requires c =
    let w = c.args.window.now in
    let es = c.args.owners.now.blocks.entries in
    let r = row-at w _ (paid-gap c.args.format w es c.args.visits.now c.rows.visits) es
    c.requires.aligned.marking.frame c.rows.number
    c.rows.invariant c.row-payload.result c.row-payload.ensures.row in
    let at = r.place in
    omega arith

pub is_right_tile-requires-clause-observed : goal.is_right_tile-requires-clause-observed
is_right_tile-requires-clause-observed c =
    let b = c.args.window.now.bytes in
    marked-followed c.args.format (bytes_of b) (tiles_in b) (state_of c.args.owners.now) c.requires.aligned

pub is_right_tile-requires-clause-max_count : goal.is_right_tile-requires-clause-max_count
is_right_tile-requires-clause-max_count c =
    let few = few-blocks c.args.window.now.bytes c.args.owners.now.blocks.entries c.requires.tiles
    c.requires.aligned.marking.frame in
    omega arith

pub is_right_tile-requires-clause-position : goal.is_right_tile-requires-clause-position
is_right_tile-requires-clause-position c =
    let k = (goal.at.is_right_tile-requires-clause-position c).After-tile_of-tile in
    lies-same (row k).here c.tile_of-tile.result (sym (place k)) (sym (len k)) (sym (used k)) _ (here k).lies

pub is_right_tile-requires-clause-well_formed : goal.is_right_tile-requires-clause-well_formed
is_right_tile-requires-clause-well_formed c =
    let k = (goal.at.is_right_tile-requires-clause-well_formed c).After-tile_of-tile in
    let b = c.args.window.now.bytes in
    ready-same (row k).here c.tile_of-tile.result (sym (place k)) (sym (len k)) (sym (used k)) c.args.format
    (bytes_of b) (tiles_in b) c.args.owners.now.blocks.entries
    (marked-ready c.args.format (bytes_of b) (tiles_in b) (state_of c.args.owners.now)
    c.requires.aligned c.requires.objects (row k).here (here k).mem)

pub returns-then-not-is_right_tile-clause-verdict : goal.returns-then-not-is_right_tile-clause-verdict
returns-then-not-is_right_tile-clause-verdict c =
    let k = (goal.at.returns-then-not-is_right_tile-clause-verdict c).After-tile_of-tile in
    let w = c.args.window.now in
    let r = row k in
    let t = c.tile_of-tile.result in
    let wrong = test-same r.here t (sym (place k)) (sym (len k)) (sym (used k)) c.args.format (bytes_of w.bytes)
    (tiles_in w.bytes) ∙ sym c.is_right_tile.ensures.value ∙ c.if-not-is_right_tile.true in
    let found = fails-there w _ (has_container c.args.format (bytes_of w.bytes) (tiles_in w.bytes)) r.here
    c.row-payload.result.0 r.at r.at.kept.right wrong r.place in
    (containers-same c.args.format (bytes_of w.bytes) (tiles_in w.bytes) ∙ found.0, found.1)

pub returns-then-not-is_right_tile-clause-visits : goal.returns-then-not-is_right_tile-clause-visits
returns-then-not-is_right_tile-clause-visits c =
    let k = (goal.at.returns-then-not-is_right_tile-clause-visits c).After-tile_of-tile in
    let w = c.args.window.now in
    let es = c.args.owners.now.blocks.entries in
    let r = row k in
    let paid = pays-same c.tile_of-tile.result r.here (place k) (len k) (used k) _ _ _
    (c.is_right_tile.ensures.visits c.rows.visits c.row-payload.ensures.visits) in
    within w es c.args.visits.now c.is_right_tile.new.visits c.requires.aligned.marking.frame
    (paid-stop c.args.format w es c.args.visits.now c.rows.visits c.is_right_tile.new.visits r.here r.at paid)

pub rows-preserved : goal.rows-preserved
rows-preserved c =
    let k = (goal.at.rows-preserved c).After-tile_of-tile in
    let w = c.args.window.now in
    let es = c.args.owners.now.blocks.entries in
    let r = row k in
    let t = c.tile_of-tile.result in
    let paid = pays-same t r.here (place k) (len k) (used k) _ _ _
    (c.is_right_tile.ensures.visits c.rows.visits c.row-payload.ensures.visits) in
    let right = test-same r.here t (sym (place k)) (sym (len k)) (sym (used k)) c.args.format (bytes_of w.bytes)
    (tiles_in w.bytes) ∙ sym c.is_right_tile.ensures.value ∙ c.if-not-is_right_tile.false in
    rows-on w _ (IsPaid c.args.format w es c.args.visits.now c.is_right_tile.new.visits) c.rows.number
    (frame_of c.row-payload.result) r
    (paid-more c.args.format w es c.args.visits.now c.rows.visits c.is_right_tile.new.visits r.here r.at paid right)

pub returns-clause-verdict : goal.returns-clause-verdict
returns-clause-verdict c =
    let w = c.args.window.now in
    let es = c.args.owners.now.blocks.entries in
    let all = rows-end w _ (paid-gap c.args.format w es c.args.visits.now c.rows.visits) es
    c.requires.aligned.marking.frame c.rows.number c.rows.invariant (omega arith) in
    containers-same c.args.format (bytes_of w.bytes) (tiles_in w.bytes) ∙ all.right

pub returns-clause-visits : goal.returns-clause-visits
returns-clause-visits c =
    let w = c.args.window.now in
    let es = c.args.owners.now.blocks.entries in
    let all = rows-end w _ (paid-gap c.args.format w es c.args.visits.now c.rows.visits) es
    c.requires.aligned.marking.frame c.rows.number c.rows.invariant (omega arith) in
    within w es c.args.visits.now c.rows.visits c.requires.aligned.marking.frame
    (paid-end c.args.format w es c.args.visits.now c.rows.visits all)
