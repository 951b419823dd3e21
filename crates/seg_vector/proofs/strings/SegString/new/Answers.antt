-- The words are an empty text with capacity 0.
use Rattle.seg_vector.proofs.{head-exchanged, head-gaps}
use Rattle.seg_vector.proofs.strings.SegString.new.Goals as goal

pub returns-clause-text : goal.returns-clause-text
returns-clause-text c = record {
  change = head-exchanged c.args.place c.requires.heap c.requires.room c.init_container.ensures.changes;
  gaps = λ same. head-gaps c.args.place c.requires.room c.init_container.ensures.changes;
  text = c.init_container.ensures.container 1;
}
