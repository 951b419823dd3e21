-- Each turn passes a block or gap.
use Rattle.segment_manager.proofs.objects.walking_objects.next_own.Goals as goal
use Rattle.segment_manager.proofs.Common.{sym, ◌∙◌}
use Rattle.segment_manager.proofs.blocks.OwnBlocks.{own-end, own-found, own-past}

pub returns-then-is_object : goal.returns-then-is_object
returns-then-is_object c = own-found c.next.new.self c.spans.invariant.2 c.in-Some.ensures.steps
    (sym c.is_object.ensures ∙ c.if-is_object.true)

pub spans-preserved : goal.spans-preserved
spans-preserved c = (
  tt,
  tt,
  own-past c.next.new.self c.spans.invariant.2 c.in-Some.ensures.steps (sym c.is_object.ensures ∙ c.if-is_object.false),
)

pub returns : goal.returns
returns c = own-end c.next.new.self c.spans.invariant.2 c.in_default.ensures.steps
