-- One text more.
use Rattle.segment_manager.proofs.Common.{subst, ◌∙◌, List, ℕ, take_all, IsTrue, list_all, Bor, are_bytes}
use Rattle.std.proofs.lemmas.List.Folds.{list_all-map}
use Rattle.segment_manager.proofs.bound.texts.judge_all.Goals as goal

pub returns : goal.returns
returns c = list_all-map are_bytes (λ (text : Bor (List ℕ)). text.now) c.args.texts.now
    ∙ subst (λ texts. IsTrue (list_all (λ (text : Bor (List ℕ)). are_bytes text.now) texts))
    (take_all _ _ c.loop-text-test.false) c.loop-text.invariant
