-- Elements of arrays and vectors: what a reading of one says of all.
pub mod ElementReads
