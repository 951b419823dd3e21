-- The kinds of logs: what each says of the records of a log (`Telling`), and that logs keep their name.
pub mod Names
pub mod Telling
pub mod Heads
