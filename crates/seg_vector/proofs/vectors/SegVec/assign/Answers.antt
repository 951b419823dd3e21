-- The storage grows, and then the values are written from the front.
use Rattle.seg_vector.proofs.vectors.SegVec.assign.Goals as goal
use Rattle.seg_vector.proofs.{arith, length, [], extended-now, live_of, refl, table-places, grown-of, grown-then}
use Rattle.seg_vector.proofs.{IsVector, now-then}

pub clear-requires : goal.clear-requires
clear-requires g c =
    let grown = grown-of c.args.heap.now c.reserve.new.heap c.SIZE.ensures c.requires.1.1
    (λ len capacity. length c.args.values.now) (λ n u bytes s. c.in_ok-reserve.ensures n u bytes s) in
    (c.requires.0, (grown.table, record { stands = grown.stands; values = c.requires.1.1.values }))

pub put_behind-requires-clause-container : goal.put_behind-requires-clause-container
put_behind-requires-clause-container g c =
    let grown = grown-of c.args.heap.now c.reserve.new.heap c.SIZE.ensures c.requires.1.1
    (λ len capacity. length c.args.values.now) (λ n u bytes s. c.in_ok-reserve.ensures n u bytes s) in
    let cleared = c.clear.ensures c.requires.0 grown.table
    (record { stands = grown.stands; values = c.requires.1.1.values }) in
    (0, (grown.table, ([], cleared.vector.stands)))

pub put_behind-requires-clause-space : goal.put_behind-requires-clause-space
put_behind-requires-clause-space g c =
    let grown = grown-of c.args.heap.now c.reserve.new.heap c.SIZE.ensures c.requires.1.1
    (λ len capacity. length c.args.values.now) (λ n u bytes s. c.in_ok-reserve.ensures n u bytes s) in
    let places = table-places (live_of c.args.heap.now.bytes) g.T.Plain.SIZE (length c.args.values.now) c.requires.1.0
    grown.grown in
    let words = (c.clear.ensures c.requires.0 grown.table
    (record { stands = grown.stands; values = c.requires.1.1.values })).vector.stands.words in
    omega (arith, places, words.len_word, words.capacity)

pub returns : goal.returns
returns g c xs t v =
    let grown = grown-of c.args.heap.now c.reserve.new.heap c.SIZE.ensures v
    (λ len capacity. length c.args.values.now) (λ n u bytes s. c.in_ok-reserve.ensures n u bytes s) in
    let mid : IsVector g.T.Plain.SIZE g.T.Plain.is_value g.T.Plain.spelling c.reserve.new.heap.bytes c.args.self.place
    xs grown.table = record { stands = grown.stands; values = v.values } in
    let cleared = c.clear.ensures xs grown.table mid in
    grown-then v grown (now-then mid cleared (extended-now c.clear.new.heap c.put_behind.new.heap refl cleared.vector
    c.args.values.now c.put_behind.ensures.values c.put_behind.ensures.effect))
