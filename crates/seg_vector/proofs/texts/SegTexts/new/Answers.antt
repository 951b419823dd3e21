-- The words are an empty vector with capacity 0.
use Rattle.seg_vector.proofs.{head-exchanged, head-gaps, none-stands}
use Rattle.seg_vector.proofs.texts.SegTexts.new.Goals as goal

pub returns-clause-texts : goal.returns-clause-texts
returns-clause-texts c = record {
  change = head-exchanged c.args.place c.requires.heap c.requires.room c.init_container.ensures.changes;
  gaps = λ same. head-gaps c.args.place c.requires.room c.init_container.ensures.changes;
  texts = none-stands (c.init_container.ensures.container 16);
}
