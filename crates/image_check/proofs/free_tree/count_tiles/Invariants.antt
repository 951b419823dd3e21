use Rattle.image_check.proofs.Common.{AreCounted, List, Tile, tag_rates}
use Rattle.image_check.proofs.budget.Visits.{Within}
use Rattle.image_check.proofs.walks.Tiles.{Walks, left_from}
use Rattle.image_check.proofs.free_tree.count_tiles.Given as goal

-- the tiles that the walk has passed are counted, and so are their visits
abbrev pub invariant-tiles : goal.invariant-tiles
invariant-tiles l = Walks l.window (λ (ts : List Tile). AreCounted ts l.counts
    × Within tag_rates l.initial.visits l.visits ts) l.tile

abbrev pub decreases-tiles : goal.decreases-tiles
decreases-tiles l = left_from l.window l.tile
