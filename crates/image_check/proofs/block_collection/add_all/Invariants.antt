use Rattle.image_check.proofs.block_collection.Lookup.{Gathering}
use Rattle.image_check.proofs.walks.Tiles.{Walks, left_from}
use Rattle.image_check.proofs.block_collection.add_all.Given as goal

-- the blocks of the tiles that the walk has passed are gathered
abbrev pub invariant-tiles : goal.invariant-tiles
invariant-tiles l = Walks l.window
    (Gathering l.initial.visits l.visits l.initial.blocks.room l.blocks.room l.blocks.entries) l.tile

abbrev pub decreases-tiles : goal.decreases-tiles
decreases-tiles l = left_from l.window l.tile
