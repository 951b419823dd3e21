-- The texts before the next one are laid out.
use Rattle.seg_vector.proofs.{◌≡◌, map, Some, Extent, handle, extent_at, live_of, StoresFirstTexts}
use Rattle.seg_vector.proofs.owning.place_texts.Given as goal

abbrev pub invariant-loop-i : goal.invariant-loop-i
invariant-loop-i l = (y : Extent) → handle y ≡ l.array → extent_at (live_of l.fn.heap.bytes) l.array ≡ Some y
    → StoresFirstTexts l.fn.heap l.heap y l.i (map (λ text. text.now) l.fn.texts)
