-- The allocated block is freed.
use Rattle.seg_index.proofs.index.Index.give_back.Goals as goal
use Rattle.seg_index.proofs.{ℕ, sym, subst, Option, IfSome, current, WindowState, AllocatesOk, KeepsBlocks}
use Rattle.seg_index.proofs.{EncodesLiveSet, live_of, IndexRole}
use Rattle.best_fit.proofs.Laws.{taken-back}

pub returns-in-Some-clause-unchanged : goal.returns-in-Some-clause-unchanged
returns-in-Some-clause-unchanged c =
    let A = c.args.heap.now in let B = c.deallocate.new.self in
    subst (λ (o : Option ℕ). IfSome o (λ h. (before : WindowState) (n : ℕ) → AllocatesOk current before A n IndexRole h
    → EncodesLiveSet current B.bytes (live_of before.bytes) × KeepsBlocks before B (live_of before.bytes).extents))
    (sym c.in-Some.is)
    (λ before n a. let b = taken-back before A B n c.in-Some.taken IndexRole a c.deallocate.ensures.released in
    (b.laid, b.keeps))
