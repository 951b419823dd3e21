-- The page: what the calls write of a segment, one after another (`Output`).
pub mod Output
pub mod Names
pub mod ObjectRow
