-- The capacity is the word.
use Rattle.seg_vector.proofs.{◌∙◌, arith, at-least, capacity-bytes}
use Rattle.seg_vector.proofs.container_capacity.grow_full.Goals as goal

pub capacity_for_one-requires : goal.capacity_for_one-requires
capacity_for_one-requires c =
    let s = c.requires.container.1.1.1 in let few = capacity-bytes c.args.heap.now s.heap s in
    let least = at-least c.args.each c.requires.container.1.0.capacity c.requires.non_empty in
    omega (arith, few, least, (c.capacity_of-capacity.ensures ∙ s.words.capacity))
