-- The frame, the blocks in use and their classes, one after another, and the visits of each pass.
use Rattle.image_check.proofs.Common.{arith}
use Rattle.image_check.proofs.budget.Visits.{blocks-raised, blocks-spent, gathered-raised}
use Rattle.image_check.proofs.frame.EarlyClasses.{frame-no_early_class}
use Rattle.image_check.proofs.frame.WholeCheck.{blocks-image, frame-tiles, no-memory-used}
use Rattle.image_check.proofs.checking.pass_all.Goals as goal

pub collect_blocks-requires : goal.collect_blocks-requires
collect_blocks-requires c = record {
  tiles = frame-tiles c.args.format c.args.window.now.bytes c.in-Ok.ensures.verdict;
  steps_lower =
      c.in-Ok.ensures.steps_lower;
}

pub returns-in-Err-collect_blocks-clause-outcome : goal.returns-in-Err-collect_blocks-clause-outcome
returns-in-Err-collect_blocks-clause-outcome c = (
  frame-no_early_class c.args.format c.args.window.now.bytes c.in-Ok.ensures.verdict,
  no-memory-used c.args.window.now.bytes c.collect_blocks.result c.in-Err-collect_blocks.refusal
      c.collect_blocks.ensures.memory c.in-Err-collect_blocks.is,
  c.in-Err-collect_blocks.ensures.refused,
)

pub returns-in-Err-collect_blocks-clause-visits : goal.returns-in-Err-collect_blocks-clause-visits
returns-in-Err-collect_blocks-clause-visits c =
    gathered-raised c.args.window.now _ _ _
    (frame-tiles c.args.format c.args.window.now.bytes c.in-Ok.ensures.verdict)
    c.in-Ok.ensures.visits c.in-Err-collect_blocks.ensures.visits

pub check_blocks-requires-clause-frame : goal.check_blocks-requires-clause-frame
check_blocks-requires-clause-frame c = c.in-Ok.ensures.verdict

pub returns-in-Err-check_blocks-clause-outcome : goal.returns-in-Err-check_blocks-clause-outcome
returns-in-Err-check_blocks-clause-outcome c = c.in-Err-check_blocks.ensures.verdict

pub returns-in-Err-check_blocks-clause-visits : goal.returns-in-Err-check_blocks-clause-visits
returns-in-Err-check_blocks-clause-visits c =
    blocks-raised c.args.window.now _ _ _ (frame-tiles c.args.format c.args.window.now.bytes c.in-Ok.ensures.verdict)
    c.in-Ok.ensures.visits c.in-Ok-collect_blocks.ensures.visits
    _ c.in-Err-check_blocks.ensures.visits

pub returns-clause-outcome : goal.returns-clause-outcome
returns-clause-outcome c = blocks-image c.args.format c.args.window.now.bytes c.requires.format c.in-Ok.ensures.bytes
    c.in_default.ensures.verdict

pub returns-clause-visits : goal.returns-clause-visits
returns-clause-visits c =
    blocks-raised c.args.window.now _ _ _ (frame-tiles c.args.format c.args.window.now.bytes c.in-Ok.ensures.verdict)
    c.in-Ok.ensures.visits c.in-Ok-collect_blocks.ensures.visits
    _ c.in_default.ensures.visits

pub returns-clause-pass : goal.returns-clause-pass
returns-clause-pass c =
    let tiles = frame-tiles c.args.format c.args.window.now.bytes c.in-Ok.ensures.verdict in
    let raised = c.in_default.ensures.visits.0 in
    let before = c.in-Ok.ensures.visits.0 in
    let counted = c.in-Ok-collect_blocks.ensures.tiles in
    record {
      tiles = tiles;
      frame = c.in_default.ensures.frame;
      spent = blocks-spent c.args.window.now _ _ _ tiles c.in-Ok.ensures.visits c.in-Ok-collect_blocks.ensures.visits _
          c.in_default.ensures.visits;
      counted = omega arith;
    }
