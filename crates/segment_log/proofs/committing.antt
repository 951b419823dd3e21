-- Commits, openings and checkpoints: what a crash leaves, by how the calls ended (`Ended`).
pub mod Ended
