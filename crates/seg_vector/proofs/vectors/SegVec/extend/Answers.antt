-- The storage grows, and then the values are appended.
use Rattle.seg_vector.proofs.vectors.SegVec.extend.Goals as goal
use Rattle.seg_vector.proofs.{arith, length, subst, live_of, ReservesStorageOk, IsVector, enough-for-more, extended-now}
use Rattle.seg_vector.proofs.{few-places, flat_map, grown-of, grown-then, refl, table-places, too-many, wanted-for-more}
use Rattle.seg_vector.specs.Vector.{capacity_for_more}

pub returns-then-more-gt-MAX_SEGMENT_LEN : goal.returns-then-more-gt-MAX_SEGMENT_LEN
returns-then-more-gt-MAX_SEGMENT_LEN g c xs t v =
    let more = length c.args.values.now in let enough = enough-for-more (length xs) more t.capacity in
    too-many c.args.heap.now (capacity_for_more (length xs) more t.capacity) v.stands g.met.T.Plain.sizes.0
    (omega (arith, enough, c.if-more-gt-MAX_SEGMENT_LEN.true))

pub capacity_for_more-wanted-requires-clause-no_overflow : goal.capacity_for_more-wanted-requires-clause-no_overflow
capacity_for_more-wanted-requires-clause-no_overflow g c =
    let v = c.requires.1.1 in let few = few-places c.args.heap.now g.met.T.Plain.sizes.0 v in
    omega (
      arith,
      few.0,
      few.1,
      c.len.ensures c.requires.0 c.requires.1.0 v,
      c.if-more-gt-MAX_SEGMENT_LEN.false,
    )

pub capacity_for_more-wanted-requires-clause-max_value : goal.capacity_for_more-wanted-requires-clause-max_value
capacity_for_more-wanted-requires-clause-max_value g c =
    let v = c.requires.1.1 in let few = few-places c.args.heap.now g.met.T.Plain.sizes.0 v in
    omega (arith, few.1, c.capacity.ensures c.requires.0 c.requires.1.0 v)

pub put_behind-requires-clause-container : goal.put_behind-requires-clause-container
put_behind-requires-clause-container g c =
    let xs = c.requires.0 in
    let grown = grown-of c.args.heap.now c.reserve.new.heap c.SIZE.ensures c.requires.1.1
    (λ len capacity. c.capacity_for_more-wanted.result) (λ n u bytes s. c.in_ok-reserve.ensures n u bytes s) in
    (length xs, (grown.table, (flat_map g.T.Plain.spelling xs, grown.stands)))

pub put_behind-requires-clause-space : goal.put_behind-requires-clause-space
put_behind-requires-clause-space g c =
    let xs = c.requires.0 in let t = c.requires.1.0 in let v = c.requires.1.1 in
    let more = length c.args.values.now in
    let wanted = wanted-for-more more c.capacity_for_more-wanted.ensures (c.len.ensures xs t v)
    (c.capacity.ensures xs t v) in
    let grown = grown-of c.args.heap.now c.reserve.new.heap c.SIZE.ensures v
    (λ len capacity. c.capacity_for_more-wanted.result) (λ n u bytes s. c.in_ok-reserve.ensures n u bytes s) in
    let places = table-places (live_of c.args.heap.now.bytes) g.T.Plain.SIZE c.capacity_for_more-wanted.result t
    grown.grown in
    let enough = enough-for-more (length xs) more t.capacity in
    let words = grown.stands.words in
    omega (arith, places, wanted, enough, words.len_word, words.capacity)

pub returns : goal.returns
returns g c xs t v =
    let more = length c.args.values.now in let A = c.args.heap.now in let B = c.reserve.new.heap in
    let wanted = wanted-for-more more c.capacity_for_more-wanted.ensures (c.len.ensures xs t v)
    (c.capacity.ensures xs t v) in
    let grown = subst (λ n. ReservesStorageOk A B c.args.self.place g.T.Plain.SIZE n (length xs) t
    (flat_map g.T.Plain.spelling xs)) wanted (grown-of A B c.SIZE.ensures v
    (λ len capacity. c.capacity_for_more-wanted.result) (λ n u bytes s. c.in_ok-reserve.ensures n u bytes s)) in
    let mid : IsVector g.T.Plain.SIZE g.T.Plain.is_value g.T.Plain.spelling B.bytes c.args.self.place xs grown.table =
    record { stands = grown.stands; values = v.values } in
    grown-then v grown (extended-now B c.put_behind.new.heap refl mid c.args.values.now c.put_behind.ensures.values
    c.put_behind.ensures.effect)
