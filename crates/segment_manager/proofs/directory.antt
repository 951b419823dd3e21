-- The directory that bytes denote: after a change of one object (`OneObject`), after a call, and after a refusal.
pub mod Unchanged
pub mod AnyDirectory
pub mod Frame
pub mod IndexedParts
pub mod LiveSet
pub mod EmptySegment
