-- The image of the last commit: what the calls of a commit and of a checkpoint make of it (`Kept`).
pub mod Kept
