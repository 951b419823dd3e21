use Rattle.image_check.proofs.Common.{HasTiles, List, Tile, WindowState, entries_of, frames, has_owner, length}
use Rattle.image_check.proofs.Common.{list_all, true, ◌+◌, ◌-◌, ◌≡◌, ◌≤◌}
use Rattle.image_check.specs.Passes.{tiles_in}
use Rattle.image_check.proofs.walks.Rows.{RowWalks}
use Rattle.image_check.proofs.orphans.check_orphans.Given as goal

-- the blocks that the walk has passed need no owner or have one
abbrev pub invariant-rows : goal.invariant-rows
invariant-rows l = record {
  walk : (w : WindowState) → HasTiles w.bytes → frames l.owners.blocks.entries ≡ frames (entries_of (tiles_in w.bytes))
      → RowWalks w (λ (ts : List Tile). list_all (has_owner l.owners.blocks.entries) ts ≡ true) l.number;
  within : l.number ≤ length l.owners.blocks.entries;
  more : l.initial.visits ≤ l.visits;
  most : l.visits ≤ l.initial.visits + l.number;
}

abbrev pub decreases-rows : goal.decreases-rows
decreases-rows l = length l.owners.blocks.entries - l.number
