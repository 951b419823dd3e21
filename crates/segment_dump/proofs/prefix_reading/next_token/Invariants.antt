use Rattle.segment_dump.proofs.prefix_reading.next_token.Given as goal
use Rattle.segment_dump.proofs.{Common.length, reading.Prefixes.InToken}

abbrev pub invariant-token : goal.invariant-token
invariant-token l = InToken l.text l.rest

abbrev pub decreases-token : goal.decreases-token
decreases-token l = length l.rest
