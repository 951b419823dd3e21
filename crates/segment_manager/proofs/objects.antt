-- Objects of all kinds.
pub mod Destroys
pub mod FilledCalls
pub mod Stored
pub mod RankedPairs
pub mod Regrown
pub mod Constructed
pub mod Heads
pub mod Slices
pub mod Standings
pub mod Rewritten
pub mod Exchanged
pub mod AnyKind
pub mod ArrayItems
pub mod Locating
pub mod KindCodes
