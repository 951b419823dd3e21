pub mod Absent
pub mod Asked
pub mod Changes
pub mod Contents
pub mod Layouts
pub mod Ranges
pub mod Writing
