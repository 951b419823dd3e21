-- Only notes are gone so far.
use Rattle.segment_dump.proofs.Common.{◌≡◌, length, without_notes}
use Rattle.segment_dump.proofs.notes.without_notes.Given as goal

abbrev pub invariant-notes : goal.invariant-notes
invariant-notes l = without_notes l.left ≡ without_notes l.text

abbrev pub decreases-notes : goal.decreases-notes
decreases-notes l = length l.left
