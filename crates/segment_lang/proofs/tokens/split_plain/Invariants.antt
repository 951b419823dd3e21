use Rattle.std.proofs.Common.{◌≡◌, ◌≤◌, ◌+◌, length}
use Rattle.std.specs.List.{prefix_len}
use Rattle.segment_lang.specs.Lexing.{is_plain}
use Rattle.segment_lang.proofs.tokens.split_plain.Given as goal

abbrev pub invariant-prefix : goal.invariant-prefix
invariant-prefix l = (prefix_len is_plain l.rest + length l.bytes ≡ prefix_len is_plain l.bytes + length l.rest)
    × (length l.rest ≤ length l.bytes)

abbrev pub decreases-prefix : goal.decreases-prefix
decreases-prefix l = length l.rest
