-- Lints: how one ends.
pub mod Ends
