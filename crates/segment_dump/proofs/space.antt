-- The space that the objects of a dump need: those of a segment have room in another (`Objects.segments-have-room`).
pub mod Objects
pub mod Blocks
pub mod OneGap
