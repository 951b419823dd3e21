-- Bytes and their numbers (`Numbers`), and members of lists.
pub mod Numbers
pub mod Words
pub mod Members
pub mod Ranges
