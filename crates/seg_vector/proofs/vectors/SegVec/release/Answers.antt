-- No value is left.
use Rattle.seg_vector.proofs.{released-now}
use Rattle.seg_vector.proofs.vectors.SegVec.release.Goals as goal

pub returns : goal.returns
returns g c xs t v = released-now c.args.heap.now c.free_storage.new.heap c.SIZE.ensures v c.free_storage.ensures
