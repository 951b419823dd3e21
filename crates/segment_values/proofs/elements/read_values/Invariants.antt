-- This many values were read.
use Rattle.std.specs.Prelude.{length}
use Rattle.segment_values.proofs.elements.InPlace.{AreReadOf}
use Rattle.segment_values.proofs.elements.read_values.Given as goal

abbrev pub invariant-values : goal.invariant-values
invariant-values g l =
    AreReadOf g.T.Scalar.whole g.T.Scalar.kind l.bytes (length l.initial.series) l.series l.i
