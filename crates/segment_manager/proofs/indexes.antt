-- The two indexes, of names and of kinds.
pub mod OtherTables
pub mod Indexes
pub mod Bridge
