pub mod Steps
pub mod Lists
pub mod Maps
pub mod Calls
