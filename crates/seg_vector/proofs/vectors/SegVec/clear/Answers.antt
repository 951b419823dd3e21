-- The vector is truncated to 0 values.
use Rattle.seg_vector.proofs.{arith, cut-now}
use Rattle.seg_vector.proofs.vectors.SegVec.clear.Goals as goal

pub returns : goal.returns
returns g c xs t v = cut-now c.args.heap.now c.truncate.new.heap c.SIZE.ensures v 0 g.met.T.Plain.spells (omega arith)
    c.truncate.ensures
