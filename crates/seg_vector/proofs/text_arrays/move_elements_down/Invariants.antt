-- This many elements are in their places, and nothing else changed.
use Rattle.seg_vector.proofs.{◌+◌}
use Rattle.seg_vector.specs.TextParts.{CarriesElements}
use Rattle.seg_vector.proofs.text_arrays.move_elements_down.Given as goal

abbrev pub invariant-loop-i : goal.invariant-loop-i
invariant-loop-i l = CarriesElements l.fn.heap l.heap (l.from + l.from_at) (l.to + l.to_at) l.i
