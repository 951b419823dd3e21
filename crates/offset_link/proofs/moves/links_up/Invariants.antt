use Rattle.std.proofs.Common.{◌≡◌, ◌+◌, ◌-◌, ◌*◌, ◌≤◌}
use Rattle.raw_region.specs.Memory.{bytes_of, patched}
use Rattle.offset_link.specs.Relinked.{relinked}
use Rattle.offset_link.proofs.moves.links_up.Given as goal

abbrev pub invariant-links : goal.invariant-links
invariant-links l = record {
  some : l.left ≤ l.n;
  moved : l.bytes ≡ patched l.initial.bytes (l.at + l.by + 8 * l.left)
      (relinked (bytes_of l.initial.bytes) (l.at + 8 * l.left) (l.at + l.by + 8 * l.left) (l.n - l.left));
}

abbrev pub decreases-links : goal.decreases-links
decreases-links l = l.left
