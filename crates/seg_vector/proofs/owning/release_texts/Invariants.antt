-- The blocks of the texts from the next one on are in use still.
use Rattle.seg_vector.proofs.{◌≡◌, List, [], drop, AreHeldElements, SwapsBlocks, text_blocks, OwnedText}
use Rattle.seg_vector.proofs.owning.release_texts.Given as goal

abbrev pub invariant-loop-i : goal.invariant-loop-i
invariant-loop-i l = (ps : List OwnedText) → AreHeldElements l.fn.heap.bytes l.array l.n ps
    → SwapsBlocks l.fn.heap l.heap (text_blocks ps) (text_blocks (drop l.i ps))
    × (text_blocks ps ≡ [] → l.heap ≡ l.fn.heap)
