-- Insertion keeps the order, the colours and the black heights (`Insertion`).
pub mod Insertion
pub mod EntryPoint
pub mod Rotations
pub mod ChangePoint
