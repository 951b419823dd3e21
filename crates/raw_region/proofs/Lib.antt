mod words
pub mod Laws
pub mod Bytes
pub mod Facts
