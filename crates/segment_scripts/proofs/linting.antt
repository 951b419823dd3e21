-- Lints: what one answers, by what a line reads as.
pub mod Outcomes
