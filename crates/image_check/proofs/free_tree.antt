-- The free tree: when it is made up of the free tiles of a window (`Meaning`).
pub mod Meaning
pub mod Places
pub mod NodeCount
