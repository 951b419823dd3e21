use Rattle.std.proofs.Common.{◌≡◌, ◌≤◌, length, max}
use Rattle.segment_log.specs.Records.{recovered}
use Rattle.segment_log.specs.Edits.{most_len}
use Rattle.segment_log.proofs.replaying.most_len.Given as goal

abbrev pub invariant-loop-payload : goal.invariant-loop-payload
invariant-loop-payload l =
    (l.so_far ≤ l.most) × (max l.most (most_len (recovered l.rest) l.so_far) ≡ most_len (recovered l.log) l.len)

abbrev pub decreases-loop-payload : goal.decreases-loop-payload
decreases-loop-payload l = length l.rest
