-- Deallocation: the block and its free neighbours become one gap (`Coalescing`).
pub mod Coalescing
pub mod OneGap
