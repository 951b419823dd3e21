-- A segment has few tiles.
use Rattle.segment_manager.proofs.blocks.tiles.TilesIterator.next.Goals as goal
use Rattle.segment_manager.proofs.{Common.◌<◌, Common.◌∙◌, blocks.OwnBlocks.tile-few}
use Rattle.segment_manager.proofs.Common.{IsSegment, bytes_of, length, rules, slice_get_within, subst, sym, tiles_of}

pub overflow_add-self : goal.overflow_add-self
overflow_add-self c =
    let b = c.self.inside.segment.now.cut.bytes in
    let below = slice_get_within _ c.self.inside.at c.in_ok-tile.tile (sym c.self.invariant.tile ∙ c.in_ok-tile.was) in
    let few = tile-few b c.self.inside.at (subst IsSegment c.as_bytes.ensures.bytes c.as_bytes.ensures.denotation)
    below in
    search rules

pub returns-clause-goes : goal.returns-clause-goes
returns-clause-goes c =
    let b = c.self.inside.segment.now.cut.bytes in
    let below : c.self.inside.at < length (tiles_of (bytes_of b) (length b)) =
    slice_get_within _ c.self.inside.at c.in_ok-tile.tile (sym c.self.invariant.tile ∙ c.in_ok-tile.was) in
    search rules
