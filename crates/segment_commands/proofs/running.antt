-- Runs: how one ends (`Ends`), from the segment that it began with.
pub mod Ends
pub mod ScriptEnds
pub mod Start
pub mod Session
