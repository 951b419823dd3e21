-- Each entered link counts, and all entered links stay. Each turn reduces the number of links to follow.
use Rattle.image_check.specs.Owners.{visits_due}
use Rattle.image_check.specs.Sharing.{state_of}
use Rattle.image_check.proofs.shared_blocks.Worklist.{IsGoing}
use Rattle.image_check.proofs.marks.follow.Given as goal

abbrev pub ghost-follow_next : goal.ghost-follow_next
ghost-follow_next g a = g.format

abbrev pub invariant-nodes : goal.invariant-nodes
invariant-nodes g l = IsGoing g.format l.window.bytes (state_of l.initial.owners) l.initial.visits (state_of l.owners)
    l.visits

abbrev pub decreases-nodes : goal.decreases-nodes
decreases-nodes g l = visits_due (state_of l.owners)
