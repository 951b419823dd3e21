-- The three words are an empty container with capacity 0.
use Rattle.seg_vector.proofs.{started}
use Rattle.seg_vector.proofs.container_capacity.init_container.Goals as goal

pub returns : goal.returns
returns c = record {
  changes = c.set_words.ensures.change;
  container = λ each. started c.args.place each c.requires.aligned c.requires.room c.set_words.ensures;
}
