-- Objects that are vectors, strings and maps.
pub mod OwnedTexts
pub mod Contents
pub mod Maps
pub mod TextLists
pub mod Filled
pub mod Walks
pub mod ToChange
pub mod Stored
pub mod Changeable
pub mod ElementRuns
pub mod Ranges
