-- The entries of an index: they stay sorted (`Sorted`) if one is added or removed, or if a block moves.
pub mod Entries
pub mod Sorted
pub mod Changes
pub mod Frame
pub mod HeapChanges
