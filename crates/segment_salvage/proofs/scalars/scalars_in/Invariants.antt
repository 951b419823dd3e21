-- The values so far are those of the bytes that were read.
use Rattle.std.proofs.Common.{◌≡◌, ◌++◌, length, map}
use Rattle.seg_vector.specs.Vector.{spelled}
use Rattle.segment_salvage.proofs.scalars.scalars_in.Given as goal

abbrev pub invariant-values : goal.invariant-values
invariant-values g l = record {
  bytes_are : l.bytes ≡ spelled g.T.Scalar.kind (map g.T.Scalar.whole l.scalars.items) ++ l.left;
  many : length l.scalars.items ≡ l.counter;
}
