-- The vector stands with the value, or as it was.
use Rattle.examples.proofs.Vectors.{after_push}
use Rattle.examples.proofs.timetable.append_value.Goals as goal

pub returns : goal.returns
returns g c =
    after_push g.T.Plain.SIZE g.T.Plain.is_value g.T.Plain.spelling c.args.heap.now c.push.new.heap
    c.args.vector.place c.args.value c.push.result c.requires c.push.ensures
