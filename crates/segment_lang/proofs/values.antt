-- Values as words: arrays, numbers and literals (`Arrays`).
pub mod Arrays
pub mod Literals
pub mod Decimals
pub mod Buffers
