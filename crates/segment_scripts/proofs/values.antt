-- The values of a line, taken one after another (`ScalarBuffers`).
pub mod ScalarBuffers
pub mod Arrays
pub mod Texts
pub mod Keys
