-- The laws of tiles and tags for other crates.

-- the tiles of the tags are the tiles that are read; good tags describe tiles; a tile is whole
pub use Rattle.block_tags.proofs.tiles.TileLists.{good_tags_say_tiles, tile_is_read_off, tiles_are_read_off}
pub use Rattle.block_tags.proofs.tiles.ReadOff.{IsWhole, has_tags-AreTilesOf, has_tags-is_merged, is_tile-IsWhole}
pub use Rattle.block_tags.proofs.tiles.TagsSayTiles.{legal}
-- they fill the window, one tile begins at an offset, and where it stands in the list; the tile after one, and the
-- last before one
pub use Rattle.block_tags.proofs.tiles.TileLists.{AreTags-AreContiguous, fill-reaches, last_or, last_tile_ends_list}
pub use Rattle.block_tags.proofs.tiles.TileLists.{next_stands_behind, none_last, one_tile_at_an_offset}
pub use Rattle.block_tags.proofs.tiles.TileLists.{tile_stands_in_list}
pub use Rattle.block_tags.proofs.tiles.TileLists.{tiles_fill_the_window}
-- the tags describe the same tiles if bytes of the header or of a payload change
pub use Rattle.block_tags.proofs.changes.UnchangedTags.{prefix_is_a_window, header_may_change, payload_may_change}
