-- The two indexes, of names and of kinds.
pub mod Entries
pub mod Indexed
pub mod Listed
pub mod Iterating
pub mod NamesFrom
