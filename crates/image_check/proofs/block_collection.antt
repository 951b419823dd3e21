-- The map of blocks: each block is found by its payload (`Lookup`) and by its number.
pub mod Lookup
pub mod ByNumber
pub mod Places
pub mod Owners
pub mod InLiveSet
pub mod GoodLinks
pub mod UsedTile
