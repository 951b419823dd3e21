-- Changes at the end of a window: a block after all others (`LastBlock`), and the last gap dropped.
pub mod LastBlock
pub mod DroppedGap
pub mod LastGap
pub mod TwoMemories
