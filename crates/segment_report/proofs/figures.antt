-- The figures of a segment are its directory's (`Figures`).
pub mod Figures
pub mod Objects
pub mod Counts
pub mod Replies
