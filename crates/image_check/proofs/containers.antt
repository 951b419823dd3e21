-- Tests of containers: a vector or map that passes is valid (`MapMeaning`), and the visits of the walk over them.
pub mod Walk
pub mod Weights
pub mod Meaning
pub mod MapMeaning
pub mod Maps
pub mod MapTests
pub mod MapPairs
pub mod MapWeights
pub mod TreeCells
pub mod StorageBlocks
pub mod Objects
