-- Narrowing: a new file grants nobody more than the old one (`Narrow`), by what the old one grants each class
-- (`Floors`); and the bits above the classes (`Special`).
pub mod Narrow
pub mod Floors
pub mod Special
