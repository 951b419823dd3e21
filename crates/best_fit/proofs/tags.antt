-- The tags of a window and its live set determine each other (`TagsAndLiveSet`), and the effect of changed tags.
pub mod TagsAndLiveSet
pub mod TileRows
pub mod RowParts
pub mod UnchangedTags
pub mod TileJoins
pub mod TileCuts
pub mod OneLiveSet
pub mod Writes
pub mod Frames
