-- What a call writes of a segment, one text after another.
pub use Rattle.segment_values.proofs.Owed.{failures_in-err, of-all, of-cut, of-cut_in, of-more, of-none, of-one}
pub use Rattle.segment_values.proofs.Owed.{of-same, of-start, of-then, writes_none}
