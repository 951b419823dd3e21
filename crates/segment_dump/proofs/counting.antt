-- What is counted of a dump: of its objects, their contents and their texts (`Dumps`).
pub mod Dumps
pub mod Objects
pub mod Contents
pub mod Sums
