-- Trees of nodes: the cells that lead to one (`Linked`), its order, its height, its colours.
pub mod Linked
pub mod OrderedLists
pub mod OneSided
pub mod Heights
pub mod NodeCount
pub mod BlackHeights
pub mod NodeLaws
