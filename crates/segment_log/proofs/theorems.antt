-- The laws: what a crash may leave at each moment (`Lawful`).
pub mod Found
pub mod Lasting
pub mod Lawful
pub mod Ends
pub mod Steps
pub mod Crash
pub mod Repair
pub mod Always
