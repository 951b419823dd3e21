use Rattle.std.proofs.Common.{◌≡◌, length}
use Rattle.segment_log.specs.Edits.{edited}
use Rattle.segment_log.proofs.edits.edit.Given as goal

abbrev pub invariant-loop-at : goal.invariant-loop-at
invariant-loop-at l = edited l.rest l.image ≡ edited l.text l.fn.image

abbrev pub decreases-loop-at : goal.decreases-loop-at
decreases-loop-at l = length l.rest
