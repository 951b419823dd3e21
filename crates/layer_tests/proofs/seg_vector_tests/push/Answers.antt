-- The vector stands with the value, or as it was.
use Rattle.layer_tests.proofs.calls.Vectors.{after_push}
use Rattle.layer_tests.proofs.seg_vector_tests.push.Goals as goal

pub returns : goal.returns
returns g c =
    after_push g.T.Plain.SIZE g.T.Plain.is_value g.T.Plain.spelling c.args.heap.now c.push.new.heap
    c.args.vector.place c.args.value c.push.result c.requires c.push.ensures
