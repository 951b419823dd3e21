use Rattle.image_check.proofs.Common.{IsWholeMarkingOf, arith}
use Rattle.image_check.specs.Owners.{FollowsAll}
use Rattle.image_check.specs.Sharing.{state_of}
use Rattle.image_check.proofs.shared_blocks.AllNoted.{finds-from, on-ok, whole}
use Rattle.image_check.proofs.shared_blocks.Tiles.{sharing-weigh}
use Rattle.image_check.proofs.shared_blocks.Meaning.{none-shared-in, some-shared-in}
use Rattle.image_check.proofs.shared_blocks.check_sharing.Goals as goal

pub returns-in-Err-clause-verdict : goal.returns-in-Err-clause-verdict
returns-in-Err-clause-verdict g c =
    let e = c.in-Err.ensures.mark in (some-shared-in g.said c.args.window.now.bytes _ c.requires.0 e, e)

pub returns-in-Err-mark_values-clause-verdict : goal.returns-in-Err-mark_values-clause-verdict
returns-in-Err-mark_values-clause-verdict g c =
    let e = c.in-Err-mark_values.ensures.mark in
    (some-shared-in g.said c.args.window.now.bytes _ c.requires.0 e, e)

pub returns-in-Err-mark_values-clause-visits : goal.returns-in-Err-mark_values-clause-visits
returns-in-Err-mark_values-clause-visits g c =
    let room = c.in_default.ensures.mark.marking.room in
    let most = sharing-weigh c.args.window.now.bytes c.requires.0 in
    let a = c.mark_indexes.ensures.visits in
    let b = c.in-Err-mark_values.ensures.visits in
    (omega (arith, a.0, b.0), omega (arith, a.1, b.1))

pub returns-clause-verdict : goal.returns-clause-verdict
returns-clause-verdict g c =
    let b = c.args.window.now.bytes in
    let m = state_of c.mark_indexes.new.owners in
    let n = state_of c.mark_values.new.owners in
    let k = state_of c.follow.new.owners in
    finds-from g.said b (FollowsAll g.said b n k) c.follow.result c.requires.0 c.follow.ensures.observed
    (λ f. none-shared-in g.said b k c.requires.0
    (whole g.said b m n k c.in_default.ensures.mark c.in_default-mark_values.ensures.mark f))

pub returns-clause-contents : goal.returns-clause-contents
returns-clause-contents g c =
    let b = c.args.window.now.bytes in
    let m = state_of c.mark_indexes.new.owners in
    let n = state_of c.mark_values.new.owners in
    let k = state_of c.follow.new.owners in
    on-ok g.said b (FollowsAll g.said b n k) (IsWholeMarkingOf g.said b k) c.follow.result c.follow.ensures.observed
    (whole g.said b m n k c.in_default.ensures.mark c.in_default-mark_values.ensures.mark)

pub returns-clause-visits : goal.returns-clause-visits
returns-clause-visits g c =
    let room = c.in_default.ensures.mark.marking.room in
    let most = sharing-weigh c.args.window.now.bytes c.requires.0 in
    let a = c.mark_indexes.ensures.visits in
    let b = c.in_default-mark_values.ensures.visits in
    let d = c.follow.ensures.visits in
    (omega (arith, a.0, b.0, d.0), omega (arith, a.1, b.1, d.1))
