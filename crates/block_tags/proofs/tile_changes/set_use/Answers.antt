use Rattle.std.proofs.Common.{arith}
use Rattle.block_tags.proofs.tiles.TagsSayTiles.{fits_in, fits}
use Rattle.block_tags.proofs.changes.WrittenTags.{used_says, used_rest}
use Rattle.block_tags.proofs.tile_changes.set_use.Goals as goal

pub tile_there-tile-requires : goal.tile_there-tile-requires
tile_there-tile-requires c = let f = fits_in _ _ _ _ c.requires.said c.requires.stands
    in record { max_size = omega arith; in_bounds = omega arith }

pub overflow_add-at : goal.overflow_add-at
overflow_add-at c = let f = fits_in _ _ _ _ c.requires.said c.requires.stands in omega arith

pub tag_word-requires : goal.tag_word-requires
tag_word-requires c =
    let f = fits _ _ (record {
      tiles = c.requires.tiles;
      said = c.requires.said;
      tile = c.requires.tile;
      stands = c.requires.stands;
    }) _ c.tile_there-tile.ensures in omega arith

pub put_word-requires : goal.put_word-requires
put_word-requires c = let f = fits_in _ _ _ _ c.requires.said c.requires.stands in omega arith

pub returns-clause-tags : goal.returns-clause-tags
returns-clause-tags c = used_says _ _ _ _ c.requires _ c.tile_there-tile.ensures _ c.tag_word.ensures c.put_word.ensures

pub returns-clause-frame : goal.returns-clause-frame
returns-clause-frame c = used_rest _ _ _ _ c.requires _ c.tile_there-tile.ensures _ c.tag_word.ensures
    c.put_word.ensures

pub returns-clause-word : goal.returns-clause-word
returns-clause-word c = let put = c.put_word.ensures in put.rest
