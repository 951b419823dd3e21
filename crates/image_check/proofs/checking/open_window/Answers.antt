-- Each row is a tile in use, and one visit more. The visits are the steps.
use Rattle.image_check.proofs.Common.{HasFront, IsImage, IsWhyRefused, Spends, UpgradesFormat}
use Rattle.image_check.proofs.Common.{arith, entries_of, subst, sym, ◌∙◌}
use Rattle.image_check.specs.Passes.{tiles_in}
use Rattle.image_check.specs.Visits.{all_rates}
use Rattle.image_check.proofs.budget.Visits.{noted-raised}
use Rattle.image_check.proofs.reading.Buffer.{HasFront-least, HasFront-version}
use Rattle.image_check.proofs.block_collection.Lookup.{frame-AreBlocks, tags-blocks}
use Rattle.image_check.proofs.block_collection.Owners.{rows-count, rows-weigh}
use Rattle.image_check.proofs.checking.open_window.Goals as goal

pub version-format-requires : goal.version-format-requires
version-format-requires c =
    let least = HasFront-least c.requires.0 c.args.window c.requires.1 in omega arith

pub pass_all-requires-clause-format : goal.pass_all-requires-clause-format
pass_all-requires-clause-format c =
    let same = HasFront-version c.requires.0 c.args.window c.version-format.result c.requires.1
    c.version-format.ensures in
    let few = c.requires.2 in
    omega arith

pub pass_all-requires-clause-front : goal.pass_all-requires-clause-front
pass_all-requires-clause-front c =
    subst (λ f. HasFront f c.args.window)
    (sym (HasFront-version c.requires.0 c.args.window c.version-format.result c.requires.1 c.version-format.ensures))
    c.requires.1

pub into_segment-segment-requires-clause-format : goal.into_segment-segment-requires-clause-format
into_segment-segment-requires-clause-format c =
    let same = HasFront-version c.requires.0 c.args.window c.version-format.result c.requires.1
    c.version-format.ensures in
    let few = c.requires.2 in
    omega arith

pub into_segment-segment-requires-clause-blocks : goal.into_segment-segment-requires-clause-blocks
into_segment-segment-requires-clause-blocks c =
    let b = c.args.window.bytes in
    let p = c.in-Ok.ensures.pass in
    frame-AreBlocks (tiles_in b) c.in-Ok.owners.blocks.entries (entries_of (tiles_in b)) p.frame
    (tags-blocks b p.tiles)

pub returns-in-Ok-clause-opening : goal.returns-in-Ok-clause-opening
returns-in-Ok-clause-opening c = λ format front.
    let same = HasFront-version format c.args.window c.version-format.result front c.version-format.ensures in
    record {
      image = subst (λ f. IsImage f c.args.window.bytes) same c.in-Ok.ensures.outcome;
      place = c.into_segment-segment.ensures.place;
      upgrade = subst (λ f. UpgradesFormat f c.args.window.bytes c.into_segment-segment.result.cut.bytes) same
          c.into_segment-segment.ensures.upgrade;
      mode = c.into_segment-segment.ensures.mode;
    }

pub returns-in-Ok-clause-steps : goal.returns-in-Ok-clause-steps
returns-in-Ok-clause-steps c =
    let b = c.args.window.bytes in
    let p = c.in-Ok.ensures.pass in
    noted-raised c.args.window _ _ _ _ p.tiles
    (subst (λ n. Spends all_rates 115 b n c.pass_all.new.visits) (c.new-visits.ensures ∙ c.replace.ensures.value)
    p.spent)
    (rows-weigh b c.in-Ok.owners.blocks.entries p.tiles p.frame)
    (c.into_steps.ensures ∙ c.into_segment-segment.ensures.visits)

pub returns-in-Ok-clause-visits : goal.returns-in-Ok-clause-visits
returns-in-Ok-clause-visits c =
    let p = c.in-Ok.ensures.pass in
    let counted = p.counted in
    let all = rows-count c.args.window.bytes c.in-Ok.owners.blocks.entries p.frame in
    let one = c.into_segment-segment.ensures.visits in
    let before = c.new-visits.ensures ∙ c.replace.ensures.value in
    let after = c.into_steps.ensures in
    omega arith

pub returns-in-Err-clause-opening : goal.returns-in-Err-clause-opening
returns-in-Err-clause-opening c = λ format front.
    let same = HasFront-version format c.args.window c.version-format.result front c.version-format.ensures in
    record {
      why = subst (λ f. IsWhyRefused f c.args.window.bytes c.in-Err.cause) same c.in-Err.ensures.outcome;
      region = c.into_region.ensures;
    }

pub returns-in-Err-clause-visits : goal.returns-in-Err-clause-visits
returns-in-Err-clause-visits c = λ late.
    let counted = c.in-Err.ensures.visits_on_error late in
    let before = c.new-visits.ensures ∙ c.replace.ensures.value in
    let after = c.into_steps-in-Err.ensures in
    omega arith
