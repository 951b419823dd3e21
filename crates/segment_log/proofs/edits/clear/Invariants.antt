use Rattle.std.proofs.Common.{◌≡◌, ◌++◌, drop, replicate}
use Rattle.segment_log.proofs.edits.clear.Given as goal

abbrev pub invariant-bytes : goal.invariant-bytes
invariant-bytes l = l.bytes ≡ replicate l.at 0 ++ drop l.at l.fn.bytes
