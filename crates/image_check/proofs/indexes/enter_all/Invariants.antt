use Rattle.image_check.proofs.Common.{AreBlocks, HaveEntries, List, EntersEntries, Tile, are_enterable, bytes_of}
use Rattle.image_check.proofs.Common.{first_targets, is_new, link_at, links_in, true, ℕ, ◌*◌, ◌++◌, ◌+◌, ◌-◌, ◌<◌, ◌≡◌}
use Rattle.image_check.proofs.Common.{◌≤◌}
use Rattle.image_check.proofs.indexes.enter_all.Given as goal

-- the entries that were passed are entered
abbrev pub invariant-entries : goal.invariant-entries
invariant-entries l = record {
  within : l.i ≤ l.count;
  entered : (ts : List Tile) → AreBlocks ts l.fn.owners.blocks.entries
      → (are_enterable ts l.fn.owners.blocks.entries (links_in (bytes_of l.window.bytes) l.block l.i) ≡ true)
      × EntersEntries ts l.fn.owners.blocks.entries l.owners.blocks.entries l.root
      (first_targets (bytes_of l.window.bytes) l.block l.i);
  new : (ts : List Tile) → AreBlocks ts l.fn.owners.blocks.entries → (earlier : List ℕ)
      → HaveEntries l.fn.owners.blocks.entries earlier → (i : ℕ) → i < l.i
      → is_new ts (earlier ++ first_targets (bytes_of l.window.bytes) l.block i)
      (link_at (bytes_of l.window.bytes) (l.block + 8 * i)) ≡ true;
  pending : l.owners.pending ≡ l.fn.owners.pending;
  waiting : l.owners.waiting ≡ l.fn.owners.waiting;
  more : l.fn.visits ≤ l.visits;
  most : l.visits ≤ l.fn.visits + 3 * l.i;
}

abbrev pub decreases-entries : goal.decreases-entries
decreases-entries l = l.count - l.i
