use Rattle.image_check.proofs.Common.{List, Tile, bytes_of, is_right_tile, length, list_all, object_walk_rates, true}
use Rattle.image_check.proofs.Common.{weigh, ◌+◌, ◌-◌, ◌≡◌, ◌≤◌}
use Rattle.image_check.proofs.walks.Rows.{RowWalks}
use Rattle.image_check.proofs.object_walk.are_right.Given as goal

-- all tiles that the walk has passed are right, and it spent no more than they weigh
abbrev pub invariant-rows : goal.invariant-rows
invariant-rows l =
    RowWalks l.window (λ (ts : List Tile). (list_all (is_right_tile l.format (bytes_of l.window.bytes)) ts ≡ true) ×
    (l.fn.visits ≤ l.visits) × (l.visits ≤ l.fn.visits + weigh object_walk_rates ts)) l.number

abbrev pub decreases-rows : goal.decreases-rows
decreases-rows l = length l.blocks.entries - l.number
