-- Elements that are read, or that are written or inserted: what they change (`Bytes`), and which step it is; several
-- that are read where they stand (`InPlace`).
pub mod Bytes
pub mod InPlace
pub mod Insertion
pub mod Reading
pub mod Setting
