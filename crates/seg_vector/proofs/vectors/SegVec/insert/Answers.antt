-- The storage grows, and then the value is inserted.
use Rattle.seg_vector.proofs.{◌≤◌, arith, length, refl, capacity_for_one, grown-of, grown-then, inserted-now}
use Rattle.seg_vector.proofs.{space-for-one, stands-for-one}
use Rattle.seg_vector.proofs.vectors.SegVec.insert.Goals as goal

pub put_value-requires : goal.put_value-requires
put_value-requires g c =
    let A = c.args.heap.now in let B = c.grow_for_one.new.heap in let v = c.requires.1.1 in
    let grown = grown-of A B c.SIZE.ensures v capacity_for_one
    (λ n u bytes s. c.in_ok-grow_for_one.ensures n u bytes s) in record {
      container = stands-for-one A B c.SIZE.ensures v (λ n u bytes s. c.in_ok-grow_for_one.ensures n u bytes s);
      spot = (
        space-for-one A B c.SIZE.ensures v (λ n u bytes s. c.in_ok-grow_for_one.ensures n u bytes s),
        omega (
          arith,
          c.if-index-len.false,
          c.len-len.ensures c.requires.0 c.requires.1.0 v,
          grown.stands.words.len_word,
        ),
      );
    }

pub returns : goal.returns
returns g c xs t v =
    let grown = grown-of c.args.heap.now c.grow_for_one.new.heap c.SIZE.ensures v capacity_for_one
    (λ n u bytes s. c.in_ok-grow_for_one.ensures n u bytes s) in
    let inside : c.args.index ≤ length xs = omega (arith, c.if-index-len.false, c.len-len.ensures xs t v) in (
      inside,
      grown-then v grown (inserted-now c.grow_for_one.new.heap c.put_value.new.heap refl
          (record { stands = grown.stands; values = v.values }) c.args.index c.args.value g.met.T.Plain.spells
          inside c.put_value.ensures.value c.put_value.ensures.effect),
    )
