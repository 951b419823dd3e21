-- This many elements, the last ones, are in their places, and nothing else changed.
use Rattle.seg_vector.proofs.{◌+◌, ◌-◌, ◌*◌, current, bytes_of, ChangesBytes, AreUp}
use Rattle.seg_vector.proofs.text_arrays.move_elements_up.Given as goal

abbrev pub invariant-loop-i : goal.invariant-loop-i
invariant-loop-i l = record {
  change : ChangesBytes current l.fn.heap l.heap (l.array + l.at + 16 + 16 * (l.n - l.i)) (16 * l.i);
  carried : AreUp (bytes_of l.fn.heap.bytes) (bytes_of l.heap.bytes) (l.array + l.at) (l.n - l.i) l.n;
}
