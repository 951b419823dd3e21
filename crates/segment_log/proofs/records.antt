-- Records: what a log stands for, record by record (`Reading`).
pub mod Reading
pub mod Pieces
