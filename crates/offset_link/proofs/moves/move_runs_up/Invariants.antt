use Rattle.std.proofs.Common.{◌≡◌, ◌+◌, ◌-◌, ◌*◌, ◌≤◌, false, ◌==◌, not}
use Rattle.raw_region.specs.Memory.{bytes_of, patched}
use Rattle.offset_link.specs.Relinked.{word_by_distance, reworded, BothEven, HasNoNullLink}
use Rattle.offset_link.proofs.moves.move_runs_up.Given as goal

abbrev pub invariant-runs : goal.invariant-runs
invariant-runs g l = record {
  some : l.left ≤ l.n;
  moved : l.bytes ≡ patched l.initial.bytes (l.at + l.by + 64 * l.left)
      (reworded word_by_distance (bytes_of l.initial.bytes) (l.at + 64 * l.left) (l.at + l.by + 64 * l.left)
      (8 * (l.n - l.left)));
  seen : not (g.row.NON_NULL == 0) ≡ false → BothEven l.seen.first l.seen.second
      → BothEven l.fn.before.first l.fn.before.second
      × HasNoNullLink (bytes_of l.initial.bytes) (l.at + 64 * l.left) (8 * (l.n - l.left));
}

abbrev pub decreases-runs : goal.decreases-runs
decreases-runs g l = l.left
