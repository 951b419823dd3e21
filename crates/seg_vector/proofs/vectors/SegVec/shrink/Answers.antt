-- The values stay.
use Rattle.seg_vector.proofs.{fitted-now}
use Rattle.seg_vector.proofs.vectors.SegVec.shrink.Goals as goal

pub returns : goal.returns
returns g c xs t v = fitted-now c.args.heap.now c.shrink_storage.new.heap c.SIZE.ensures v c.shrink_storage.ensures
