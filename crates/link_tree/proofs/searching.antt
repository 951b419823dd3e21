-- Search: what it finds are the neighbours of the probe (`Neighbours`), and what it notes on its way is where a change
-- would begin.
pub mod Neighbours
pub mod ChangePoints
pub mod PathWalk
pub mod PathEnd
