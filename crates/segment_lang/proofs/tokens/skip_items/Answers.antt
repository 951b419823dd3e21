use Rattle.std.proofs.Common.{sym, ◌∙◌, arith}
use Rattle.segment_lang.proofs.texts.Items.{behind_text-item}
use Rattle.segment_lang.proofs.tokens.skip_items.Goals as goal

pub items-preserved : goal.items-preserved
items-preserved c = (
  behind_text-item _ _ _ (sym c.in-Some.ensures.value)
      ∙ c.items.invariant.0,
  omega (arith, c.in-Some.ensures.shrinking),
)
