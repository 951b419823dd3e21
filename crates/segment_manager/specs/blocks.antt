-- The blocks and gaps of the heap below.
pub mod Resized
