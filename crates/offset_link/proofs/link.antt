-- Links: a word leads where it was made to lead (`Targets.link_own`).
pub mod Targets
