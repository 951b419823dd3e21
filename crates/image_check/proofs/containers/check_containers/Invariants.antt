use Rattle.image_check.proofs.Common.{length, ◌-◌}
use Rattle.image_check.proofs.containers.Walk.{IsPaid}
use Rattle.image_check.proofs.walks.Rows.{RowWalks}
use Rattle.image_check.proofs.containers.check_containers.Given as goal

-- the tiles that the walk has passed are right, and paid for
abbrev pub invariant-rows : goal.invariant-rows
invariant-rows l = RowWalks l.window (IsPaid l.format l.window l.owners.blocks.entries l.fn.visits l.visits) l.number

abbrev pub decreases-rows : goal.decreases-rows
decreases-rows l = length l.owners.blocks.entries - l.number
