use Rattle.std.proofs.Common.{◌≡◌, length}
use Rattle.segment_log.specs.Records.{recovered}
use Rattle.segment_log.specs.Tags.{names_after}
use Rattle.segment_log.proofs.tags.some_image.Given as goal

abbrev pub invariant-loop-payload : goal.invariant-loop-payload
invariant-loop-payload l = names_after l.id (recovered l.rest) ≡ names_after l.id (recovered l.log)

abbrev pub decreases-loop-payload : goal.decreases-loop-payload
decreases-loop-payload l = length l.rest
