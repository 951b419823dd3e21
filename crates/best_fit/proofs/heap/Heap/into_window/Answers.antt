-- The window is unchanged, and keeps its room for notes.
use Rattle.best_fit.proofs.Common.{WindowState, IsHeap, current, subst, sym}
use Rattle.best_fit.proofs.heap.Heap.into_window.Goals as goal

pub returns-clause-heap : goal.returns-clause-heap
returns-clause-heap c =
    subst (λ (v : WindowState). IsHeap current v.bytes) (sym c.keep_hints.ensures) c.self.invariant.heap
