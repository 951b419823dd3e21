use Rattle.image_check.proofs.Common.{entries_of, length, ◌-◌}
use Rattle.image_check.specs.Passes.{tiles_in}
use Rattle.image_check.specs.Sharing.{state_of}
use Rattle.image_check.proofs.shared_blocks.Tiles.{Noting}
use Rattle.image_check.proofs.walks.Rows.{RowWalks}
use Rattle.image_check.proofs.shared_blocks.mark_values.Given as goal

abbrev pub ghost-mark_object : goal.ghost-mark_object
ghost-mark_object g a = g.said

-- the values in the tiles that the walk has passed are entered
abbrev pub invariant-rows : goal.invariant-rows
invariant-rows g l = RowWalks l.window (Noting g.said l.window.bytes (state_of l.initial.owners) l.initial.visits
    (state_of l.owners) l.visits) l.number

abbrev pub decreases-rows : goal.decreases-rows
decreases-rows g l = length (entries_of (tiles_in l.window.bytes)) - l.number
