-- Walks over the tiles of a window (`Tiles`) and over the rows of the map of blocks (`Rows`).
pub mod Tiles
pub mod Rows
pub mod OneTile
pub mod Places
pub mod Counts
pub mod Weights
