-- Classes and modes: each is read back from the other (`Bits`).
pub mod Bits
