-- This many copies are written, and nothing else has changed.
use Rattle.segment_manager.proofs.Common.{◌+◌, ◌*◌, length, current, HasBytesAt, bytes_of, ChangesBytes, repeated}
use Rattle.segment_manager.proofs.containers.fillings.write_elements.Given as goal

abbrev pub invariant-loop-i : goal.invariant-loop-i
invariant-loop-i l = record {
  change : ChangesBytes current l.initial.heap l.heap (l.handle + l.at) (length l.bytes * l.i);
  content : HasBytesAt (bytes_of l.heap.bytes) (l.handle + l.at) (repeated l.i l.bytes);
}
