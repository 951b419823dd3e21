-- Tags and their tiles: the tags of a window describe one list of tiles, the list that is read
-- (`ReadOff.say_one_list`).
pub mod ReadOff
pub mod TagsSayTiles
pub mod TileInList
pub mod TileLists
pub mod TagWalk
pub mod LastTile
