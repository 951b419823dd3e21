-- The elements before the next one are values.
use Rattle.segment_manager.proofs.Common.{take, IsTrue, list_all}
use Rattle.segment_manager.proofs.bound.slices.judge_all.Given as goal

abbrev pub invariant-loop-value : goal.invariant-loop-value
invariant-loop-value g l = IsTrue (list_all g.T.Plain.is_value (take l.value-index l.values))
