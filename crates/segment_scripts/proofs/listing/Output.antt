-- What a call writes, said of the places for which it is owed.
pub use Rattle.segment_values.proofs.Owed.{failures_in-err, of-cut, of-cut_in, of-more, of-start, of-then}
pub use Rattle.segment_values.proofs.Owed.{of-one as writes_owed, of-same as writes_same}
