-- Replaying: a log is read record by record (`Runs`).
pub mod Runs
