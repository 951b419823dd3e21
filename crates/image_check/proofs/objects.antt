-- Tests of objects: all of them (`AllObjects`), and one, part by part.
pub mod AllObjects
pub mod OneObject
pub mod HeadBytes
