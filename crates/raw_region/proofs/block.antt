-- The machine values of memory: a part of the bytes is borrowed and returned (`Parts`). These files assume `Logic`.
pub mod Parts
pub mod Values
pub mod Lending
pub mod Signatures
