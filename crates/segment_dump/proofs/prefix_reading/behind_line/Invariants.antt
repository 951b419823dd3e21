use Rattle.segment_dump.proofs.prefix_reading.behind_line.Given as goal
use Rattle.segment_dump.proofs.{Common.length, reading.Sizes.InFirst, reading.Prefixes.InLine}

abbrev pub invariant-bytes : goal.invariant-bytes
invariant-bytes l = record { skips : InLine l.text l.rest; first : InFirst l.text l.rest }

abbrev pub decreases-bytes : goal.decreases-bytes
decreases-bytes l = length l.rest
