pub mod Walked
pub mod Ranged
