-- One value more passes the test.
use Rattle.segment_manager.proofs.Common.{and_from, ap, sym, ◌∙◌}
use Rattle.std.proofs.lemmas.List.Folds.{list_all_more}
use Rattle.segment_manager.proofs.bound.slices.judge_all.Goals as goal

pub loop-value-preserved : goal.loop-value-preserved
loop-value-preserved g c = let test = g.T.Plain.is_value in
    list_all_more test c.args.values.now c.loop-value.value-index c.value-item.result c.loop-value-test.true
    ∙ and_from _ _ c.loop-value.invariant (ap test (sym c.value-item.is) ∙ c.holds_value.ensures)
