use Rattle.segment_scripts.proofs.values.ScalarBuffers.{IsRead}
use Rattle.segment_scripts.proofs.scalars.copy_literals.Given as goal

abbrev pub invariant-literals : goal.invariant-literals
invariant-literals g l = record {
  can : (goal.iterator-literals g).can_next l.literal-iterator;
  finite : (goal.iterator-literals g).is_finite l.literal-iterator;
  read : IsRead g.T.Scalar.whole g.T.Scalar.kind l.fn.literals l.literal-iterator l.buffer l.fits;
}
