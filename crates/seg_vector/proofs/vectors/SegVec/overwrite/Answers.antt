-- The bytes encode the values.
use Rattle.seg_vector.proofs.{◌≤◌, ◌+◌, arith, length, refl, replaced-none, replaced-now, unchanged-now}
use Rattle.seg_vector.specs.VectorCalls.{replaced}
use Rattle.seg_vector.proofs.vectors.SegVec.overwrite.Goals as goal

pub returns-then-more-gt0-clause-sets : goal.returns-then-more-gt0-clause-sets
returns-then-more-gt0-clause-sets g c xs t v =
    let inside : c.args.first + length c.args.values.now ≤ length xs = omega (
      arith,
      c.if-first-len.false,
      c.if-more-len.false,
      c.len-len.ensures xs t v,
    ) in (
      inside,
      replaced-now c.args.heap.now c.put_over.new.heap refl v c.args.first c.args.values.now g.met.T.Plain.spells
          inside c.put_over.ensures.values c.put_over.ensures.overwrite,
    )

pub returns-else-more-gt0-clause-sets : goal.returns-else-more-gt0-clause-sets
returns-else-more-gt0-clause-sets g c xs t v = (
  omega (arith, c.if-first-len.false, c.if-more-len.false, c.len-len.ensures xs t v),
  unchanged-now c.args.heap.now (replaced xs c.args.first c.args.values.now) v
      (replaced-none xs c.args.first c.args.values.now (omega (arith, c.if-more-gt0.false))),
)
