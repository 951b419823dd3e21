pub mod Losses
pub mod Standing
pub mod Work
pub mod Steps
pub mod Pairs
