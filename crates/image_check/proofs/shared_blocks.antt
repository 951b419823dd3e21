-- Owners of blocks: the entered links decide which blocks are shared and which have no owner (`Meaning`).
pub mod Meaning
pub mod AllNoted
pub mod Tiles
pub mod Values
pub mod Links
pub mod OneLink
pub mod Worklist
pub mod Roots
