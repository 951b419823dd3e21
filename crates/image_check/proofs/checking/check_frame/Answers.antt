use Rattle.image_check.proofs.Common.{ap, is_some, not-false, not-true, sym, tag_rates, tree_rates, ◌∙◌}
use Rattle.image_check.proofs.budget.Visits.{frame-raised, spend-both, tags-raised, tags-spend}
use Rattle.image_check.proofs.frame.WholeCheck.{IsChecked, checked-frame, checked-tags, checked-tiles, checked-tree}
use Rattle.image_check.proofs.walks.Counts.{not-given}
use Rattle.image_check.proofs.frame.FirstClass.{first-reserved}
use Rattle.image_check.proofs.checking.check_frame.Goals as goal

pub returns-in-Err-clause-verdict : goal.returns-in-Err-clause-verdict
returns-in-Err-clause-verdict c =
    let e = c.in-Err.ensures in (first-reserved c.args.format c.args.window.now c.requires e.0, e.1)

pub returns-then-not-tags-clause-verdict : goal.returns-then-not-tags-clause-verdict
returns-then-not-tags-clause-verdict c =
    let wrong = not-true c.check_counted-tags.result.are_good c.if-not-tags.true in
    checked-tags c.args.format c.args.window.now _ c.requires c.in_default.ensures
    (sym c.check_counted-tags.ensures.good ∙ wrong) (c.check_counted-tags.ensures.stop wrong)

pub returns-then-not-tags-clause-visits_on_error : goal.returns-then-not-tags-clause-visits_on_error
returns-then-not-tags-clause-visits_on_error c =
    tags-raised c.args.window.now.bytes _ c.check_counted-tags.result.tags _ c.check_counted-tags.ensures.max_count
    c.check_counted-tags.ensures.visits

pub check_gaps-requires : goal.check_gaps-requires
check_gaps-requires c = record {
  tiles = checked-tiles c.args.format c.args.window.now (record {
    front = c.requires;
    reserved = c.in_default.ensures;
    tags = sym c.check_counted-tags.ensures.good ∙ not-false c.check_counted-tags.result.are_good c.if-not-tags.false;
  });
}

pub returns-in_default-check_gaps-clause-verdict : goal.returns-in_default-check_gaps-clause-verdict
returns-in_default-check_gaps-clause-verdict c =
    let h : IsChecked c.args.format c.args.window.now = record {
      front = c.requires;
      reserved = c.in_default.ensures;
      tags = sym c.check_counted-tags.ensures.good ∙ not-false c.check_counted-tags.result.are_good c.if-not-tags.false;
    } in
    checked-tree c.args.format c.args.window.now h (sym c.check_gaps.ensures.value
    ∙ not-given c.check_gaps.result c.in_default-check_gaps.not-Some)

pub returns-in_default-check_gaps-clause-visits_on_error : goal.returns-in_default-check_gaps-clause-visits_on_error
returns-in_default-check_gaps-clause-visits_on_error c =
    let w = c.args.window.now in
    let tiles = checked-tiles c.args.format w (record {
      front = c.requires;
      reserved = c.in_default.ensures;
      tags = sym c.check_counted-tags.ensures.good ∙ not-false c.check_counted-tags.result.are_good c.if-not-tags.false;
    }) in
    frame-raised w _ _ tiles
    (spend-both w.bytes tag_rates tree_rates 1 50 _ _ _ (tags-spend w _ c.check_counted-tags.result.tags
    c.check_counted-tags.new.visits tiles c.check_counted-tags.ensures.max_count c.check_counted-tags.ensures.visits)
    c.check_gaps.ensures.visits)

pub returns-clause-verdict : goal.returns-clause-verdict
returns-clause-verdict c =
    let h : IsChecked c.args.format c.args.window.now = record {
      front = c.requires;
      reserved = c.in_default.ensures;
      tags = sym c.check_counted-tags.ensures.good ∙ not-false c.check_counted-tags.result.are_good c.if-not-tags.false;
    } in
    checked-frame c.args.format c.args.window.now h (sym c.check_gaps.ensures.value ∙ ap is_some c.in-Some.is)

pub returns-clause-steps_lower : goal.returns-clause-steps_lower
returns-clause-steps_lower c = c.in-Some.ensures.steps_lower

pub returns-clause-bytes : goal.returns-clause-bytes
returns-clause-bytes c = c.bytes_are_octets.ensures

pub returns-clause-visits : goal.returns-clause-visits
returns-clause-visits c =
    let w = c.args.window.now in
    let tiles = checked-tiles c.args.format w (record {
      front = c.requires;
      reserved = c.in_default.ensures;
      tags = sym c.check_counted-tags.ensures.good ∙ not-false c.check_counted-tags.result.are_good c.if-not-tags.false;
    }) in
    spend-both w.bytes tag_rates tree_rates 1 50 _ _ _ (tags-spend w _ c.check_counted-tags.result.tags
    c.check_counted-tags.new.visits tiles c.check_counted-tags.ensures.max_count c.check_counted-tags.ensures.visits)
    c.check_gaps.ensures.visits
