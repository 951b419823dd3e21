use Rattle.image_check.proofs.Common.{are_spellings, bytes_of, true, ◌+◌, ◌-◌, ◌≡◌, ◌≤◌}
use Rattle.image_check.proofs.spellings.are_spellings.Given as goal

-- the elements that were passed are spelled
abbrev pub invariant-elements : goal.invariant-elements
invariant-elements l = record {
  within : l.i ≤ l.count;
  spelled : are_spellings (bytes_of l.window.bytes) l.kind l.start l.i ≡ true;
  more : l.fn.visits ≤ l.visits;
  most : l.visits ≤ l.fn.visits + l.i;
}

abbrev pub decreases-elements : goal.decreases-elements
decreases-elements l = l.count - l.i
