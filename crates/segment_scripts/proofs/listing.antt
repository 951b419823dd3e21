-- Listings and shown objects, line by line (`Lines`).
pub mod Lines
pub mod Objects
pub mod Blocks
pub mod Instances
pub mod Contents
pub mod Output
