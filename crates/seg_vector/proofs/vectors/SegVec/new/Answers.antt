-- The words are an empty vector with capacity 0.
use Rattle.seg_vector.proofs.{refl, head-exchanged, head-gaps}
use Rattle.seg_vector.proofs.vectors.SegVec.new.Goals as goal

pub returns-clause-vector : goal.returns-clause-vector
returns-clause-vector g c = record {
  change = head-exchanged c.args.place c.requires.heap c.requires.room c.init_container.ensures.changes;
  gaps = λ same. head-gaps c.args.place c.requires.room c.init_container.ensures.changes;
  vector = record { stands = c.init_container.ensures.container g.T.Plain.SIZE; values = refl };
}
