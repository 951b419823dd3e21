-- The picture of a segment: each block and gap lies in it (`Blocks`).
pub mod Blocks
pub mod Shapes
pub mod Escapes
