pub mod Format
pub mod Tiles
pub mod Lists
pub mod Windows
pub mod Checks
pub mod Laws
pub mod Worked
