-- Drawings: a segment has more objects than a number, or not (`Counts`).
pub mod Counts
