use Rattle.image_check.proofs.Common.{AreBlocks, List, Tile, bytes_of, is_element_at, list_all, range_with_len, true}
use Rattle.image_check.proofs.Common.{◌*◌, ◌+◌, ◌≡◌, ◌≤◌}
use Rattle.image_check.proofs.arrays.are_elements.Given as goal

-- the elements so far lead to their texts, with at most two visits each
abbrev pub invariant-elements : goal.invariant-elements
invariant-elements l =
    record {
      lead : (ts : List Tile) → AreBlocks ts l.blocks.entries
          → list_all (λ j. is_element_at (bytes_of l.window.bytes) ts (l.at + 16 * j)) (range_with_len 0 l.i) ≡ true;
      least : l.initial.visits ≤ l.visits;
      most : l.visits ≤ l.initial.visits + 2 * l.i;
    }
