-- Dumping: all objects of a segment are those of its dump (`Sections.dump-parts`).
pub mod Sections
pub mod ObjectParts
pub mod LaidOut
pub mod Output
pub mod Capacities
pub mod Json
