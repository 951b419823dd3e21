-- The hints that were added are handles of blocks.
use Rattle.best_fit.proofs.heap.Heap.adopt.Goals as goal

pub invariant_of-heap : goal.invariant_of-heap
invariant_of-heap c = record { heap = c.heap.invariant.heap; hints = c.hint_blocks.ensures }
