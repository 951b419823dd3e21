-- The pairs of a map: as a list (`Lists`), as a search tree, and through each call.
pub mod Lists
pub mod NodeBlocks
pub mod SearchTree
pub mod Lookup
pub mod Put
pub mod Erase
pub mod Frame
