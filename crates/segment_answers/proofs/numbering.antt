-- Numbers in front of lines, and the texts of several lines that they stand beside.
pub mod Texts
