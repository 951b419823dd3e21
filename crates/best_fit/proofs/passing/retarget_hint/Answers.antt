-- The next block is another one, and the remaining hints are handles of blocks.
use Rattle.best_fit.proofs.Common.{◌≢◌, sym, subst, ℕ, IsTrue, inl, inr, is_live_in, live_of}
use Rattle.best_fit.proofs.passing.retarget_hint.Goals as goal

pub returns-in-Some-clause-hints : goal.returns-in-Some-clause-hints
returns-in-Some-clause-hints c =
    let b = c.args.touches.now.gaps.now.window.bytes in λ h hinted. elim (c.insert.ensures h hinted) [
      | inl e ↦ subst (λ (k : ℕ). (k ≢ c.args.handle) × IsTrue (is_live_in (live_of b) k)) (sym e)
          c.in-Some.ensures.block
      | inr before ↦ let kept = c.remove.ensures h before in (kept.0, c.requires.hints h kept.1)
    ]
