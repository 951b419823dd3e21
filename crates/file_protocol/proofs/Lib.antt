pub mod Parts
pub mod Relies
pub mod Steps
pub mod Runs
pub mod Reading
pub mod Changing
pub mod Examples
