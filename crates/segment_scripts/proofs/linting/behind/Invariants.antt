use Rattle.std.proofs.Common.{◌≡◌, ◌≤◌, length}
use Rattle.segment_scripts.specs.Linting.{behind}
use Rattle.segment_scripts.proofs.linting.behind.Given as goal

abbrev pub invariant-bytes : goal.invariant-bytes
invariant-bytes l = (behind l.blanks l.rest ≡ behind l.blanks l.bytes) × (length l.rest ≤ length l.bytes)

abbrev pub decreases-bytes : goal.decreases-bytes
decreases-bytes l = length l.rest
