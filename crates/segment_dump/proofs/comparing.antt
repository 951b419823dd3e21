-- Comparing a text with the dump of a segment.
pub mod Comparison
