-- A container that is not full stays as it is.
use Rattle.seg_vector.proofs.{◌∙◌, arith, capacity_for_one, grows-not, less-stays}
use Rattle.seg_vector.proofs.container_capacity.grow_for_one.Goals as goal

pub returns-then-len-capacity_of : goal.returns-then-len-capacity_of
returns-then-len-capacity_of c len t bytes s =
    let capacity = c.capacity_of.ensures ∙ s.words.capacity in let own = c.requires.len ∙ s.words.len_word in
    grows-not c.args.heap.now (capacity_for_one len t.capacity)
    (less-stays len t.capacity (omega (arith, own, capacity, c.if-len-capacity_of.true))) s
