use Rattle.std.proofs.Common.{arith}
use Rattle.block_tags.proofs.tiles.TagsSayTiles.{fits_in, fits}
use Rattle.block_tags.proofs.changes.Merge.{there_to_join, joins, joined_says, joined_rest}
use Rattle.block_tags.proofs.tile_changes.merge_next.Goals as goal

pub tile_there-tile-requires : goal.tile_there-tile-requires
tile_there-tile-requires c = let f = fits_in _ _ _ _ c.requires.said c.requires.stands
    in record { max_size = omega arith; in_bounds = omega arith }

pub overflow_add-at : goal.overflow_add-at
overflow_add-at c = let f = fits _ _ (there_to_join _ _ c.requires _ c.tile_there-tile.ensures) _
    c.tile_there-tile.ensures in omega arith

pub tile_there-requires : goal.tile_there-requires
tile_there-requires c = let f =
    fits _ _ (there_to_join _ _ c.requires _ c.tile_there-tile.ensures) _ c.tile_there-tile.ensures
    in record { max_size = omega arith; in_bounds = omega arith }

pub overflow_add-joined : goal.overflow_add-joined
overflow_add-joined c = let j =
    joins _ _ c.requires _ c.tile_there-tile.ensures _ c.tile_there.ensures _ c.requires.said in omega arith

pub overflow_add-at-2 : goal.overflow_add-at-2
overflow_add-at-2 c = let j = joins _ _ c.requires _ c.tile_there-tile.ensures _ c.tile_there.ensures _
    c.requires.said in omega arith

pub tag_word-requires : goal.tag_word-requires
tag_word-requires c = let j = joins _ _ c.requires _ c.tile_there-tile.ensures _ c.tile_there.ensures _
    c.requires.said in omega arith

pub put_word-requires : goal.put_word-requires
put_word-requires c = let j = joins _ _ c.requires _ c.tile_there-tile.ensures _ c.tile_there.ensures _
    c.requires.said in omega arith

pub overflow_add-at-3 : goal.overflow_add-at-3
overflow_add-at-3 c = let j = joins _ _ c.requires _ c.tile_there-tile.ensures _ c.tile_there.ensures _
    c.requires.said in omega arith

pub put_word-requires-2 : goal.put_word-requires-2
put_word-requires-2 c = let j =
    joins _ _ c.requires _ c.tile_there-tile.ensures _ c.tile_there.ensures _ c.requires.said in omega arith

pub returns-clause-tags : goal.returns-clause-tags
returns-clause-tags c =
    joined_says _ _ c.requires _ c.tile_there-tile.ensures _ _ _ c.tile_there.ensures _ c.tag_word.ensures
    c.put_word.ensures c.put_word-2.ensures

pub returns-clause-frame : goal.returns-clause-frame
returns-clause-frame c =
    joined_rest _ _ c.requires _ c.tile_there-tile.ensures _ _ _ c.tile_there.ensures _ c.tag_word.ensures
    c.put_word.ensures c.put_word-2.ensures
