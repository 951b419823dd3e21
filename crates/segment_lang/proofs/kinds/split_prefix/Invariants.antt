use Rattle.std.proofs.Common.{◌≡◌, ◌≤◌, ◌+◌, ◌==◌, length, not}
use Rattle.std.specs.List.{prefix_len}
use Rattle.segment_lang.proofs.kinds.split_prefix.Given as goal

abbrev pub invariant-prefix : goal.invariant-prefix
invariant-prefix l = (prefix_len (λ c. not (c == 0x5B)) l.rest + length l.token
    ≡ prefix_len (λ c. not (c == 0x5B)) l.token + length l.rest) × (length l.rest ≤ length l.token)

abbrev pub decreases-prefix : goal.decreases-prefix
decreases-prefix l = length l.rest
