use Rattle.std.proofs.Common.{arith, sym, ◌∙◌, cond, ap, Some, None}
use Rattle.segment_lang.proofs.values.Arrays.{count-end, count-more, count-none}
use Rattle.segment_lang.proofs.values.count_values.Goals as goal

pub returns-in_err-scalar_of : goal.returns-in_err-scalar_of
returns-in_err-scalar_of c = c.from_residual.ensures
    ∙ sym (count-none _ c.values.count _ _ _ (sym c.in-Some.ensures.value) c.in_err-scalar_of.ensures)
    ∙ c.values.invariant.counted

pub values-preserved : goal.values-preserved
values-preserved c = record {
  counted = count-more _ c.values.count _ _ _ _ (sym c.in-Some.ensures.value) c.in_ok-scalar_of.ensures
      ∙ c.values.invariant.counted;
  room = omega (arith, c.in-Some.ensures.shrinking);
}

pub returns-then-not-at_end : goal.returns-then-not-at_end
returns-then-not-at_end c = sym (count-end c.args.kind c.values.count _ (sym c.in_default.ensures.value)
    ∙ ap (λ e. cond e (Some c.values.count) None) (sym c.at_end.ensures ∙ c.if-not-at_end.true))
    ∙ c.values.invariant.counted

pub returns : goal.returns
returns c = sym (count-end c.args.kind c.values.count _ (sym c.in_default.ensures.value)
    ∙ ap (λ e. cond e (Some c.values.count) None) (sym c.at_end.ensures ∙ c.if-not-at_end.false))
    ∙ c.values.invariant.counted
