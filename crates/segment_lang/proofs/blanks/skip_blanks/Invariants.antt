use Rattle.std.proofs.Common.{◌≡◌, ◌≤◌, length}
use Rattle.segment_lang.specs.Reading.{skip_blanks}
use Rattle.segment_lang.proofs.blanks.skip_blanks.Given as goal

abbrev pub invariant-blanks : goal.invariant-blanks
invariant-blanks l = (skip_blanks l.rest ≡ skip_blanks l.bytes) × (length l.rest ≤ length l.bytes)

abbrev pub decreases-blanks : goal.decreases-blanks
decreases-blanks l = length l.rest
