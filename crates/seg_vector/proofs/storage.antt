-- The storage of a container: regrown, written and read (`Storage`), with its head of three words.
pub mod Storage
pub mod HeadAndBlock
pub mod Shrinking
pub mod PayloadBytes
pub mod TypedVectors
