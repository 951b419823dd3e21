use Rattle.std.proofs.Common.{◌≡◌, ◌≤◌, ◌+◌, length}
use Rattle.std.specs.List.{prefix_len}
use Rattle.segment_lang.specs.Lexing.{is_bare}
use Rattle.segment_lang.proofs.tokens.split_bare.Given as goal

abbrev pub invariant-bare : goal.invariant-bare
invariant-bare l = (prefix_len is_bare l.rest + length l.bytes ≡ prefix_len is_bare l.bytes + length l.rest)
    × (length l.rest ≤ length l.bytes)

abbrev pub decreases-bare : goal.decreases-bare
decreases-bare l = length l.rest
