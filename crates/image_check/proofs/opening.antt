-- Opening an image: its decided classes, and the reasons of a refusal.
pub mod Decisions
pub mod InRegion
pub mod InMemory
pub mod Refusals
pub mod Region
pub mod Saved
