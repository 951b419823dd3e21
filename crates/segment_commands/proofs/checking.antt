-- Checks of several files.
pub mod Files
