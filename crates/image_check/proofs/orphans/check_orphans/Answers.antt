use Rattle.image_check.proofs.Common.{Block, Blocks, Err, List, Ok, Some, Tile, WindowState, ap, arith, block_at}
use Rattle.image_check.proofs.Common.{frame_of}
use Rattle.image_check.proofs.Common.{has_owner, list_all, refl, sym, true, ℕ, ◌∙◌, ◌≡◌}
use Rattle.image_check.specs.Owners.{is_owned}
use Rattle.image_check.specs.Sharing.{state_of}
use Rattle.image_check.proofs.block_collection.Owners.{free-tests, rows-weigh, tile-tests}
use Rattle.image_check.proofs.shared_blocks.Meaning.{orphan-found}
use Rattle.image_check.proofs.walks.Rows.{PassesGaps, RowAt, row-at, rows-end, rows-on, rows-start}
use Rattle.image_check.proofs.walks.Tiles.{all-more, fails-there, tags-IsTiledWindow}
use Rattle.image_check.proofs.orphans.check_orphans.Goals as goal

-- the property of the passed tiles after the walk
abbrev Kept : Blocks → List Tile → Type 0
Kept es ts = list_all (has_owner es) ts ≡ true

gaps : (w : WindowState) (es : Blocks) → PassesGaps w (Kept es)
gaps w es t u a = all-more (has_owner es) a.front t a.kept (free-tests es t u)

-- the tile of a row has an owner where its block has
same : (w : WindowState) (es : Blocks) (number : ℕ) (x : ℕ × Block) → (r : RowAt w (Kept es) number (frame_of x))
    → block_at es x.0 ≡ Some x.1 → has_owner es r.here ≡ is_owned x.1
same w es number x r is = tile-tests es r.here x.1 r.use_of (ap (block_at es) r.place ∙ is)

pub rows-init : goal.rows-init
rows-init c = record {
  walk = λ w h f. rows-start w (Kept c.args.owners.now.blocks.entries) (tags-IsTiledWindow w h.size h.tags) refl;
  within = omega arith;
  more = omega arith;
  most = omega arith;
}

pub rows-preserved : goal.rows-preserved
rows-preserved c =
    let es = c.args.owners.now.blocks.entries in
    let inv = c.rows.invariant in
    let more = inv.more in
    let most = inv.most in
    let x = c.row-payload.result in
    record {
      walk = λ w h f.
          let r = row-at w (Kept es) (gaps w es) es f c.rows.number (inv.walk w h f) x c.row-payload.ensures.row in
          let owned = same w es c.rows.number x r c.row-payload.ensures.block ∙ sym c.is_owned.ensures
          ∙ c.if-not-is_owned.false in
          rows-on w (Kept es) (Kept es) c.rows.number (frame_of x) r
          (all-more (has_owner es) r.at.front r.here r.at.kept owned);
      within = omega arith;
      more = omega arith;
      most = omega arith;
    }

pub returns-then-not-is_owned-clause-verdict : goal.returns-then-not-is_owned-clause-verdict
returns-then-not-is_owned-clause-verdict c format w h whole =
    let es = c.args.owners.now.blocks.entries in
    let x = c.row-payload.result in
    let r = row-at w (Kept es) (gaps w es) es whole.marking.frame c.rows.number
    (c.rows.invariant.walk w h whole.marking.frame) x c.row-payload.ensures.row in
    let lacks = same w es c.rows.number x r c.row-payload.ensures.block ∙ sym c.is_owned.ensures
    ∙ c.if-not-is_owned.true in
    orphan-found format w.bytes (state_of c.args.owners.now) h whole (Err x.0)
    (fails-there w (Kept es) (has_owner es) r.here x.0 r.at r.at.kept lacks r.place)

pub returns-then-not-is_owned-clause-visits : goal.returns-then-not-is_owned-clause-visits
returns-then-not-is_owned-clause-visits c image h f =
    let weight = rows-weigh image c.args.owners.now.blocks.entries h f in
    let more = c.rows.invariant.more in
    let most = c.rows.invariant.most in
    (omega arith, omega arith)

pub returns-clause-verdict : goal.returns-clause-verdict
returns-clause-verdict c format w h whole =
    let es = c.args.owners.now.blocks.entries in
    orphan-found format w.bytes (state_of c.args.owners.now) h whole (Ok tt)
    (rows-end w (Kept es) (gaps w es) es whole.marking.frame c.rows.number
    (c.rows.invariant.walk w h whole.marking.frame) (omega arith))

pub returns-clause-visits : goal.returns-clause-visits
returns-clause-visits c image h f =
    let weight = rows-weigh image c.args.owners.now.blocks.entries h f in
    let more = c.rows.invariant.more in
    let most = c.rows.invariant.most in
    (omega arith, omega arith)
