use Rattle.std.proofs.Common.{◌≡◌, length}
use Rattle.file_rights.specs.Rights.{common}
use Rattle.file_rights.specs.AccessLists.{common_within, entries_of}
use Rattle.file_rights.proofs.access_lists.common_within.Given as goal

abbrev pub invariant-loop-entry : goal.invariant-loop-entry
invariant-loop-entry l =
    common l.rights (common_within l.tag l.mask (entries_of l.rest))
    ≡ common_within l.tag l.mask (entries_of l.bytes)

abbrev pub decreases-loop-entry : goal.decreases-loop-entry
decreases-loop-entry l = length l.rest
