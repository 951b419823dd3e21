-- A node's cell changes, and nothing else that the tree reads.
use Rattle.best_fit.proofs.Common.{refl, ℕ, GapNode, GapTree}
use Rattle.link_tree.specs.Frame.{SameExceptCells}
use Rattle.best_fit.specs.contracts.heap.nodes.GapTreeNodes.TheImpl.{ghosts}
use Rattle.best_fit.proofs.gaps.OneField.{Changed, nodes_stay, order_stays, probes_stay, kept_stays}

-- a change of one node's cell changes nothing else of the tree
pub same_beside_cells : (old new : GapTree) (n : ℕ) → GapNode old.window n → Changed old.window new.window n
    → SameExceptCells ghosts old new
same_beside_cells old new n g changed =
    record {
      nodes = nodes_stay old.window new.window n g changed;
      order = order_stays old.window new.window n g changed;
      probe = probes_stay old.window new.window n g changed;
      lender = refl;
      kept = kept_stays old.window new.window n g changed;
    }
