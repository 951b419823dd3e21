-- Loading: a dump for whose objects nothing is lacking gives a segment (`Success`).
pub mod Success
pub mod Judgement
pub mod Portable
pub mod DumpObjects
pub mod Placed
pub mod Dropped
