pub mod Link
pub mod Relinked
pub mod Moves
