-- Without hints each hint is the handle of a block.
use Rattle.best_fit.proofs.Common.{WindowState, IsHeap, current, subst, sym}
use Rattle.best_fit.proofs.tile_walk.Hints.{none-lead}
use Rattle.best_fit.proofs.heap.Heap.adopt_without_hints.Goals as goal

pub invariant_of-result : goal.invariant_of-result
invariant_of-result c =
    record {
      heap = subst (λ (v : WindowState). IsHeap current v.bytes) (sym c.take_hints.ensures.unchanged) c.requires;
      hints = none-lead c.none_in-hints.result c.take_hints.new.self.bytes c.none_in-hints.ensures;
    }
