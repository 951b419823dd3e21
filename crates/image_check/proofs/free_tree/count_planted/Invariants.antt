use Rattle.image_check.proofs.Common.{AreCounted, IsSearchTree, List, Tile, Tree, bytes_of, is_planted, list_all}
use Rattle.image_check.proofs.Common.{nodes_of, planting_rates, stands_before, true, ◌≡◌}
use Rattle.image_check.specs.FreeNodes.{target_cells}
use Rattle.image_check.proofs.budget.Visits.{Within}
use Rattle.image_check.proofs.walks.Tiles.{Walks, left_from}
use Rattle.image_check.proofs.free_tree.count_planted.Given as goal

-- all tiles that the walk has passed are nodes of each tree at the root, and they and their visits are counted
abbrev pub invariant-tiles : goal.invariant-tiles
invariant-tiles l =
    ((t : Tree) → IsSearchTree (stands_before (bytes_of l.window.bytes)) (target_cells l.window) l.root t
    → Walks l.window (λ (ts : List Tile). list_all (is_planted l.window (nodes_of t)) ts ≡ true) l.tile)
    × Walks l.window (λ (ts : List Tile). AreCounted ts l.counts × Within planting_rates l.initial.visits l.visits ts)
    l.tile

abbrev pub decreases-tiles : goal.decreases-tiles
decreases-tiles l = left_from l.window l.tile
