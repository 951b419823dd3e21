use Rattle.std.proofs.Common.{◌≡◌, length}
use Rattle.file_rights.specs.AccessLists.{entries_of, first_rights}
use Rattle.file_rights.proofs.access_lists.first_rights.Given as goal

abbrev pub invariant-loop-entry : goal.invariant-loop-entry
invariant-loop-entry l = first_rights l.tag (entries_of l.rest) ≡ first_rights l.tag (entries_of l.bytes)

abbrev pub decreases-loop-entry : goal.decreases-loop-entry
decreases-loop-entry l = length l.rest
