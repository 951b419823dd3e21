-- Each turn of the walk passes one tile in use.
use Rattle.image_check.proofs.Common.{IsValueReady, arith, bytes_of, frame_of, sym, ◌∙◌, ◌≡◌}
use Rattle.image_check.specs.Sharing.{state_of}
use Rattle.image_check.proofs.shared_blocks.Tiles.{Noting, cost-same, grown-same, noting-end, noting-gap, noting-on}
use Rattle.image_check.proofs.shared_blocks.Tiles.{noting-refused, noting-start, object-same, ready-here, room-here}
use Rattle.image_check.proofs.walks.Rows.{RowAt, few-rows, row-at, rows-end, rows-on, rows-start}
use Rattle.image_check.proofs.walks.Tiles.{tags-IsTiledWindow}
use Rattle.image_check.proofs.shared_blocks.mark_values.Given.{Over}
use Rattle.image_check.proofs.shared_blocks.mark_values.Goals.{After-tile_of-tile}
use Rattle.image_check.proofs.shared_blocks.mark_values.Goals as goal

row : (g : Over) (c : After-tile_of-tile g) → RowAt c.args.window.now
    (Noting g.said c.args.window.now.bytes (state_of c.args.owners.now) c.args.visits.now (state_of c.rows.owners)
    c.rows.visits) c.rows.number (frame_of c.row-payload.result)
row g c =
    row-at c.args.window.now _ (noting-gap g.said c.args.window.now (state_of c.args.owners.now) c.args.visits.now
    (state_of c.rows.owners) c.rows.visits) c.rows.owners.blocks.entries c.rows.invariant.kept.marking.frame
    c.rows.number c.rows.invariant c.row-payload.result c.row-payload.ensures.row

-- the tile of the row is the tile at its offset, except its colour
place : (g : Over) (c : After-tile_of-tile g)
    → c.tile_of-tile.result.offset ≡ (row g c).here.offset
place g c = let at = (row g c).place in let there = c.tile_of-tile.ensures.place in omega arith

len : (g : Over) (c : After-tile_of-tile g) → c.tile_of-tile.result.len ≡ (row g c).here.len
len g c = c.tile_of-tile.ensures.len ∙ sym (row g c).len

used : (g : Over) (c : After-tile_of-tile g)
    → c.tile_of-tile.result.use_of ≡ (row g c).here.use_of
used g c = c.tile_of-tile.ensures.usage ∙ sym (row g c).use_of

pub rows-init : goal.rows-init
rows-init g c =
    let w = c.args.window.now in
    let o = state_of c.args.owners.now in
    rows-start w (Noting g.said w.bytes o c.args.visits.now o c.args.visits.now)
    (tags-IsTiledWindow w c.requires.0.size c.requires.0.tags)
    (noting-start g.said w.bytes o c.args.visits.now c.requires.1.1.1.0 c.requires.1.1.1.1)

pub tile_of-tile-requires : goal.tile_of-tile-requires
tile_of-tile-requires g c =
    let at = (row-at c.args.window.now _ (noting-gap g.said c.args.window.now (state_of c.args.owners.now)
    c.args.visits.now (state_of c.rows.owners) c.rows.visits) c.rows.owners.blocks.entries
    c.rows.invariant.kept.marking.frame c.rows.number c.rows.invariant c.row-payload.result
    c.row-payload.ensures.row).place in
    omega arith

pub mark_object-requires : goal.mark_object-requires
mark_object-requires g c =
    let k = (goal.at.mark_object-requires g c).After-tile_of-tile in
    let w = c.args.window.now in
    let o = state_of c.args.owners.now in
    let p = state_of c.rows.owners in
    let r = row g k in
    let there = place g k in
    let room = room-here g.said w r.here c.requires.0 c.requires.1.1.0 o c.args.visits.now p c.rows.visits r.at in
    let ready = ready-here g.said w r.here c.requires.0 c.requires.1.1.0 o c.args.visits.now p c.rows.visits r.at in (
      c.requires.0,
      (
        c.requires.1.0,
        (
          omega arith,
          (
            r.at.kept.marking,
            object-same r.here c.tile_of-tile.result (sym (place g k)) (sym (len g k)) (sym (used g k)) g.said
                (bytes_of w.bytes) (λ kind at. IsValueReady g.said w.bytes kind at p.entries) ready,
          ),
        ),
      ),
    )

pub returns-in-Err-clause-visits : goal.returns-in-Err-clause-visits
returns-in-Err-clause-visits g c =
    let k = (goal.at.returns-in-Err-clause-visits g c).After-tile_of-tile in
    let r = row g k in
    let seen = c.row-payload.ensures.visits in
    let cost = cost-same c.tile_of-tile.result r.here (place g k) (len g k) (used g k) in
    let paid = c.in-Err.ensures.visits in
    noting-refused g.said c.args.window.now r.here c.requires.0 c.requires.1.1.0 (state_of c.args.owners.now)
    c.args.visits.now (state_of c.rows.owners) c.rows.visits r.at c.mark_object.new.visits (omega (arith, paid.0))
    (omega (arith, paid.1))

pub rows-smaller : goal.rows-smaller
rows-smaller g c =
    let few = few-rows c.args.window.now.bytes c.rows.owners.blocks.entries c.rows.invariant.kept.marking.frame in
    omega arith

pub rows-preserved : goal.rows-preserved
rows-preserved g c =
    let k = (goal.at.rows-preserved g c).After-tile_of-tile in
    let w = c.args.window.now in
    let o = state_of c.args.owners.now in
    let p = state_of c.rows.owners in
    let n = state_of c.mark_object.new.owners in
    let r = row g k in
    let t = c.tile_of-tile.result in
    let seen = c.row-payload.ensures.visits in
    let cost = cost-same t r.here (place g k) (len g k) (used g k) in
    let paid = c.in_default.ensures.visits in
    rows-on w _ (Noting g.said w.bytes o c.args.visits.now n c.mark_object.new.visits) c.rows.number
    (frame_of c.row-payload.result) r
    (noting-on g.said w r.here c.requires.0 c.requires.1.1.0 o c.args.visits.now p c.rows.visits r.at n
    c.mark_object.new.visits
    (grown-same t r.here (place g k) (len g k) (used g k) g.said w.bytes p n c.in_default.ensures.mark)
    (omega (arith, paid.0)) (omega (arith, paid.1)))

pub returns-clause-mark : goal.returns-clause-mark
returns-clause-mark g c =
    let w = c.args.window.now in
    let o = state_of c.args.owners.now in
    let p = state_of c.rows.owners in
    noting-end g.said w.bytes o c.args.visits.now p c.rows.visits
    (rows-end w _ (noting-gap g.said w o c.args.visits.now p c.rows.visits) p.entries
    c.rows.invariant.kept.marking.frame c.rows.number c.rows.invariant (omega arith))

pub returns-clause-visits : goal.returns-clause-visits
returns-clause-visits g c =
    let p = state_of c.rows.owners in
    let all = rows-end c.args.window.now _ (noting-gap g.said c.args.window.now (state_of c.args.owners.now)
    c.args.visits.now p c.rows.visits) p.entries c.rows.invariant.kept.marking.frame c.rows.number c.rows.invariant
    (omega arith) in
    (all.more, omega (arith, all.most))
