-- The pairs between two bounds: what is read of a map says them (`RangeReads`).
pub mod RangeReads
pub mod Bounds
pub mod Ahead
