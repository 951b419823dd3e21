-- Loads: a dump that fits is loaded, if memory is given (`Loads`).
pub mod Loads
pub mod LongTexts
