-- Conditions and answers of the calls that the tests make.
pub mod NodeTable
pub mod HeapCalls
pub mod Windows
pub mod Maps
pub mod Vectors
