use Rattle.std.proofs.Common.{◌≡◌}
use Rattle.raw_region.specs.Memory.{bytes_of, patched}
use Rattle.offset_link.specs.Relinked.{word_by_distance, reworded, unless_null}
use Rattle.offset_link.proofs.moves.put_right.Given as goal

abbrev pub invariant-links : goal.invariant-links
invariant-links l = record {
  null : l.null ≡ word_by_distance l.from l.to 1;
  done : l.bytes ≡ patched l.initial.bytes l.to
      (reworded (unless_null l.from l.to) (bytes_of l.initial.bytes) l.to l.to l.i);
}
