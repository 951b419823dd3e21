-- The output of a call, if it depends on the state of a machine or a segment.
pub use Rattle.segment_values.specs.Writing.{WritesFor}
