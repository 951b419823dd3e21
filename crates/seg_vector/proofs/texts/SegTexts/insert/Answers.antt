-- No array has this many places. What the call for an index inside answers is the answer.
use Rattle.seg_vector.proofs.{arith, few_places, first-answered}
use Rattle.seg_vector.proofs.texts.SegTexts.insert.Goals as goal

pub capacity_for_one-wanted-requires : goal.capacity_for_one-wanted-requires
capacity_for_one-wanted-requires c =
    let few = few_places c.args.heap.now c.requires.1.1 in
    omega (arith, few, c.capacity-capacity.ensures c.requires.0 c.requires.1.0 c.requires.1.1)

pub returns-then-len-capacity-clause-first : goal.returns-then-len-capacity-clause-first
returns-then-len-capacity-clause-first c = λ ps t s.
    let len = c.len-len.ensures ps t s in let capacity = c.capacity-capacity.ensures ps t s in
    first-answered c.args.heap.now c.insert_within.new.heap c.args.self.place ps t c.args.index c.args.text.now
    c.insert_within.result (c.insert_within.ensures ps t s (omega (arith, len, c.if-index-len.false))
    (omega (arith, len, capacity, c.if-len-capacity.true)))
