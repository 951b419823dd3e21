-- Reading a dump part by part: its front (`PrefixLines.prefix-some`), objects, elements, pieces, and the notes after
-- it.
pub mod PrefixLines
pub mod PrefixSteps
pub mod PrefixFaults
pub mod ObjectHeads
pub mod Lines
pub mod Elements
pub mod Pieces
pub mod NextTokens
pub mod Prefixes
pub mod Sizes
pub mod DumpSize
pub mod NoteLines
pub mod Notes
