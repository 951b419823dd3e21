-- Runs that commit: how one ends, from the segment that it began with (`Ends`).
pub mod Ends
