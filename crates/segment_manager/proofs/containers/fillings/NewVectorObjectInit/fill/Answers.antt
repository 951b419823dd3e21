-- The vector is made empty, and then the values are written.
use Rattle.segment_manager.proofs.{containers.NewContainers.vector-made, containers.ScalarTypes.of-vector}
use Rattle.segment_manager.proofs.containers.fillings.NewVectorObjectInit.fill.Goals as goal

pub returns : goal.returns
returns g c = vector-made _ _ _ _ _ (of-vector g.met.T.Scalar) c.args.heap.now c.new.new.heap c.assign.new.heap
    c.args.place c.new.result.place c.args.self.now.values.now c.assign.result c.new.ensures.place c.new.ensures.changes
    c.new.ensures.vector c.assign.ensures
