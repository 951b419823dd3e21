use Rattle.std.proofs.Common.{◌≡◌, ◌-◌, ◌*◌, false, ◌==◌, not}
use Rattle.raw_region.specs.Memory.{bytes_of, patched}
use Rattle.offset_link.specs.Relinked.{word_by_distance, reworded, BothEven, HasNoNullLink}
use Rattle.offset_link.proofs.moves.move_runs_down.Given as goal

abbrev pub invariant-runs : goal.invariant-runs
invariant-runs g l = record {
  moved : l.bytes ≡ patched l.initial.bytes (l.at - l.by)
      (reworded word_by_distance (bytes_of l.initial.bytes) l.at (l.at - l.by) (8 * (2 * l.i)));
  seen : not (g.row.NON_NULL == 0) ≡ false → BothEven l.seen.first l.seen.second
      → BothEven l.fn.before.first l.fn.before.second × HasNoNullLink (bytes_of l.initial.bytes) l.at (8 * (2 * l.i));
}
