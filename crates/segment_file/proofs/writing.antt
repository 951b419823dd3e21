-- Writing a file: what became of it by the answers of the disk (`Outcome`).
pub mod Outcome
pub mod PathContents
