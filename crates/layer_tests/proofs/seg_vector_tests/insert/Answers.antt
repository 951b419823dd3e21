-- The vector stands with the value, or as it was.
use Rattle.layer_tests.proofs.calls.Vectors.{after_insert}
use Rattle.layer_tests.proofs.seg_vector_tests.insert.Goals as goal

pub returns : goal.returns
returns g c =
    after_insert g.T.Plain.SIZE g.T.Plain.is_value g.T.Plain.spelling c.args.heap.now c.insert.new.heap
    c.args.vector.place c.args.index c.args.value c.insert.result c.requires c.insert.ensures
