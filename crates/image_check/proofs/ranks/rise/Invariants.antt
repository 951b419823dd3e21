use Rattle.image_check.proofs.Common.{Some, are_ranked, bytes_of, first_targets, length, name_len_at, true, ℕ, ◌*◌, ◌+◌}
use Rattle.image_check.proofs.Common.{◌-◌, ◌≡◌, ◌≤◌}
use Rattle.image_check.specs.ObjectOffsets.{link_before}
use Rattle.image_check.proofs.indexes.Ranks.{last_of}
use Rattle.image_check.proofs.ranks.rise.Given as goal

-- the entries that were passed are in order
abbrev pub invariant-entries : goal.invariant-entries
invariant-entries l = record {
  within : l.i ≤ l.count;
  ranked : are_ranked l.class (bytes_of l.window.bytes) (first_targets (bytes_of l.window.bytes) l.block l.i) ≡ true;
  last : l.last ≡ last_of (first_targets (bytes_of l.window.bytes) l.block l.i);
  behind : l.last ≡ link_before (bytes_of l.window.bytes) l.block l.i;
  head : (g : ℕ) → l.last ≡ Some g → g + 16 + name_len_at (bytes_of l.window.bytes) g ≤ length l.window.bytes;
  more : l.fn.visits ≤ l.visits;
  most : l.visits ≤ l.fn.visits + 3 * l.i;
}

abbrev pub decreases-entries : goal.decreases-entries
decreases-entries l = l.count - l.i
