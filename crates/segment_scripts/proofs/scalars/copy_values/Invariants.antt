use Rattle.segment_scripts.proofs.values.ScalarBuffers.{IsFilled}
use Rattle.segment_scripts.proofs.scalars.copy_values.Given as goal

abbrev pub invariant-values : goal.invariant-values
invariant-values g l = record {
  can : (goal.iterator-values g).can_next l.value-iterator;
  finite : (goal.iterator-values g).is_finite l.value-iterator;
  filled : IsFilled g.T.Scalar.whole g.T.Scalar.kind l.fn.values l.value-iterator l.buffer;
}
