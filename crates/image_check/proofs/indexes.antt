-- Tests of the two indexes: each lists the objects of its class in their order (`ObjectOrder`).
pub mod BothIndexes
pub mod ObjectOrder
pub mod AllEntries
pub mod OneEntry
pub mod EntryPlaces
pub mod Entries
pub mod LinkOrder
pub mod Places
pub mod Ranks
