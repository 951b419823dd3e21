-- The texts before the next one consist of bytes.
use Rattle.segment_manager.proofs.Common.{ℕ, List, take, IsTrue, list_all, Bor, are_bytes}
use Rattle.segment_manager.proofs.bound.texts.judge_all.Given as goal

abbrev pub invariant-loop-text : goal.invariant-loop-text
invariant-loop-text l = IsTrue (list_all (λ (text : Bor (List ℕ)). are_bytes text.now) (take l.text-index l.texts))
