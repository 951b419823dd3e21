-- The blocks and gaps of the heap below.
pub mod OwnBlocks
pub mod Blocks
pub mod NewBlocks
pub mod InUse
