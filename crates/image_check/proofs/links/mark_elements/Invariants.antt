use Rattle.image_check.proofs.Common.{◌-◌}
use Rattle.image_check.specs.Sharing.{state_of}
use Rattle.image_check.proofs.shared_blocks.Links.{NotedElements}
use Rattle.image_check.proofs.links.mark_elements.Given as goal

-- the elements before this one are entered
abbrev pub invariant-elements : goal.invariant-elements
invariant-elements g l = NotedElements g.format l.window.bytes l.array (state_of l.initial.owners) l.initial.visits l.i
    l.count (state_of l.owners) l.visits

abbrev pub decreases-elements : goal.decreases-elements
decreases-elements g l = l.count - l.i
