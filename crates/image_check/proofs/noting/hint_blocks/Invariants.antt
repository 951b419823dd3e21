use Rattle.image_check.proofs.Common.{length, ◌+◌, ◌-◌, ◌≡◌, ◌≤◌}
use Rattle.image_check.proofs.noting.hint_blocks.Given as goal

-- the walk counts one visit for each block that it has passed
abbrev pub invariant-rows : goal.invariant-rows
invariant-rows l = record {
  within : l.number ≤ length l.blocks.entries;
  unchanged : l.heap ≡ l.initial.heap;
  visits : l.visits ≡ l.initial.visits + l.number;
}

abbrev pub decreases-rows : goal.decreases-rows
decreases-rows l = length l.blocks.entries - l.number
