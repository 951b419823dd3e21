pub mod Files
pub mod PathContents
pub mod Holding
pub mod ReadingOn
pub mod Opening
pub mod SegmentFiles
pub mod Committing
