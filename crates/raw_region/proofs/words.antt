-- Words in bytes: a word that was written is read back, and the other bytes stay. `Words` has the laws, `Patches` the
-- lists under them.
pub mod Words
pub mod Patches
pub mod Windows
pub mod Writing
pub mod Pieces
