use Rattle.std.proofs.Common.{arith}
use Rattle.block_tags.proofs.tiles.TagsSayTiles.{fits_in}
use Rattle.block_tags.proofs.changes.Split.{splits, split_says, split_rest}
use Rattle.block_tags.proofs.tile_changes.split.Goals as goal

pub tile_there-tile-requires : goal.tile_there-tile-requires
tile_there-tile-requires c = let f = fits_in _ _ _ _ c.requires.said c.requires.stands
    in record { max_size = omega arith; in_bounds = omega arith }

pub overflow_add-rest : goal.overflow_add-rest
overflow_add-rest c = let f = splits _ _ _ c.requires _ c.tile_there-tile.ensures in omega arith

pub overflow_sub-rest : goal.overflow_sub-rest
overflow_sub-rest c = let f = splits _ _ _ c.requires _ c.tile_there-tile.ensures in omega arith

pub overflow_add-at : goal.overflow_add-at
overflow_add-at c = let f = splits _ _ _ c.requires _ c.tile_there-tile.ensures in omega arith

pub tag_word-requires : goal.tag_word-requires
tag_word-requires c = let f = splits _ _ _ c.requires _ c.tile_there-tile.ensures in omega arith

pub put_word-requires : goal.put_word-requires
put_word-requires c = let f = splits _ _ _ c.requires _ c.tile_there-tile.ensures in omega arith

pub put_word-requires-2 : goal.put_word-requires-2
put_word-requires-2 c = let f = splits _ _ _ c.requires _ c.tile_there-tile.ensures in let p =
    c.put_word.ensures.size in omega arith

pub overflow_add-rest-2 : goal.overflow_add-rest-2
overflow_add-rest-2 c = let f = splits _ _ _ c.requires _ c.tile_there-tile.ensures in omega arith

pub tag_word-requires-2 : goal.tag_word-requires-2
tag_word-requires-2 c = let f = splits _ _ _ c.requires _ c.tile_there-tile.ensures in omega arith

pub put_word-requires-3 : goal.put_word-requires-3
put_word-requires-3 c = let f = splits _ _ _ c.requires _ c.tile_there-tile.ensures in omega arith

pub overflow_add-at-2 : goal.overflow_add-at-2
overflow_add-at-2 c = let f = splits _ _ _ c.requires _ c.tile_there-tile.ensures in omega arith

pub put_word-requires-4 : goal.put_word-requires-4
put_word-requires-4 c = let f = splits _ _ _ c.requires _ c.tile_there-tile.ensures in omega arith

pub returns-clause-tags : goal.returns-clause-tags
returns-clause-tags c =
    split_says _ _ _ _ _ _ _ c.requires _ c.tile_there-tile.ensures _ _ c.tag_word.ensures c.tag_word-2.ensures
    c.put_word.ensures c.put_word-2.ensures c.put_word-3.ensures c.put_word-4.ensures

pub returns-clause-frame : goal.returns-clause-frame
returns-clause-frame c =
    split_rest _ _ _ _ _ _ _ c.requires _ c.tile_there-tile.ensures _ _ c.tag_word.ensures c.tag_word-2.ensures
    c.put_word.ensures c.put_word-2.ensures c.put_word-3.ensures c.put_word-4.ensures
