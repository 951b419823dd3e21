-- Pairs of a map: a key that it lacks (`Absent.erases-absent`), and all pairs one after another.
pub mod Absent
pub mod Walk
