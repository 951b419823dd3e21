-- Commands that write a file: what was written and said, as the command answers it (`Outcome`).
pub mod Outcome
pub mod Flush
pub mod LargerRegion
pub mod NewSegments
