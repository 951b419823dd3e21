-- The laws: no other mode is wider (`Widest`), and logs that are made with the rights of their file count (`Made`).
pub mod Widest
pub mod Made
