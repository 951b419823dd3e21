-- A block that is lengthened or shortened in place (`NewLength`).
pub mod NewLength
pub mod NextGap
pub mod CutOff
pub mod Inverse
