-- Command words and what stands after them (`Lexing`).
pub mod Lexing
pub mod Forms
pub mod KindTables
