use Rattle.std.proofs.Common.{◌≡◌, ◌≤◌, ℕ, List, length}
use Rattle.segment_log.specs.Records.{IsReadTo, recovered}
use Rattle.segment_log.specs.Edits.{applied_all, lens_after, most_len, TurnsInto}
use Rattle.segment_log.proofs.replaying.replay_within.Given as goal

abbrev pub invariant-loop-payload : goal.invariant-loop-payload
invariant-loop-payload l =
    (payloads : List (List ℕ)) × IsReadTo 4096 l.log l.rest payloads × (l.so_far ≡ lens_after payloads l.len)
    × (most_len (recovered l.rest) l.so_far ≤ length l.buffer)
    × TurnsInto l.len (applied_all payloads) l.fn.buffer l.buffer

abbrev pub decreases-loop-payload : goal.decreases-loop-payload
decreases-loop-payload l = length l.rest
