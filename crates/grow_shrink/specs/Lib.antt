pub mod LargerRegion
pub mod Resized
