-- The directory of bytes, read from them: values, objects and indexes (`Directory.read_off`).
pub mod Directory
pub mod Values
pub mod Objects
pub mod Vectors
pub mod Maps
pub mod HeadWords
pub mod GoodValues
pub mod GoodObjects
pub mod OwnBlocks
pub mod ObjectOrder
pub mod Numbers
