-- The storage grows, and then the value is appended.
use Rattle.seg_vector.proofs.{refl, capacity_for_one, appended-now, grown-of, grown-then, space-for-one, stands-for-one}
use Rattle.seg_vector.proofs.vectors.SegVec.push.Goals as goal

pub put_value-requires : goal.put_value-requires
put_value-requires g c =
    let A = c.args.heap.now in let B = c.grow_for_one.new.heap in
    record {
      container = stands-for-one A B c.SIZE.ensures c.requires.1.1
          (λ n u bytes s. c.in_ok-grow_for_one.ensures n u bytes s);
      spot = space-for-one A B c.SIZE.ensures c.requires.1.1 (λ n u bytes s. c.in_ok-grow_for_one.ensures n u bytes s);
    }

pub returns : goal.returns
returns g c xs t v =
    let grown = grown-of c.args.heap.now c.grow_for_one.new.heap c.SIZE.ensures v capacity_for_one
    (λ n u bytes s. c.in_ok-grow_for_one.ensures n u bytes s) in
    grown-then v grown (appended-now c.grow_for_one.new.heap c.put_value.new.heap refl
    (record { stands = grown.stands; values = v.values }) c.args.value c.put_value.ensures.value
    c.put_value.ensures.effect)
