-- No line ends after this place but the last one.
use Rattle.segment_dump.proofs.Common.{◌≡◌, ◌≤◌, ◌<◌, true, drop, length, is_line}
use Rattle.segment_dump.proofs.notes.last_line_at.Given as goal

abbrev pub invariant-bytes : goal.invariant-bytes
invariant-bytes l = (l.at ≤ length l.text) × (is_line (drop l.at l.text) ≡ true)
    × (0 < length l.text → l.at < length l.text)

abbrev pub decreases-bytes : goal.decreases-bytes
decreases-bytes l = l.at
