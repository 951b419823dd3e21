-- The elements are in the storage, which exists if there is an element.
use Rattle.seg_vector.proofs.elements.put_over.Goals as goal
use Rattle.seg_vector.proofs.{◌≡◌, ◌+◌, ◌*◌, sym, subst, ◌∙◌, arith, HasBytesAt, ChangesBytes, IsTrue, bytes_of}
use Rattle.seg_vector.proofs.{current, elements-fit, flat-long, flat_map, has_room, length, live_of, overwritten-all}
use Rattle.seg_vector.proofs.{room-small, some-room}
use Rattle.seg_vector.proofs.{elements.put_over.Goals.After-SIZE, elements.put_over.Given.Over}

-- the block has room for the old elements
room : (g : Over) (c : After-SIZE g) → IsTrue (has_room (live_of c.args.heap.now.bytes) c.in-Some.storage
    (c.SIZE.result * c.args.first + g.T.Plain.SIZE * length c.args.values.now))
room g c =
    let s = c.requires.container.1.1.1 in let size = g.T.Plain.SIZE in let n = length c.args.values.now in
    let step : size * (c.args.first + n) ≡ size * c.args.first + size * n = omega arith in
    let fit = elements-fit (c.args.first + n) s (omega (arith, c.requires.in_bounds, s.words.len_word)) in
    subst (λ k. IsTrue (has_room (live_of c.args.heap.now.bytes) c.in-Some.storage (k * c.args.first + size * n)))
    (sym c.SIZE.ensures) (some-room (size * c.args.first + size * n) s (sym c.link_of.ensures ∙ c.in-Some.is)
    (omega (arith, step, fit)))

pub overflow_mul-SIZE : goal.overflow_mul-SIZE
overflow_mul-SIZE g c =
    let small = room-small c.args.heap.now c.in-Some.storage (c.SIZE.result * c.args.first
    + g.T.Plain.SIZE * length c.args.values.now) c.requires.container.1.1.1.heap
    (room g (goal.at.overflow_mul-SIZE g c).After-SIZE) in
    omega (arith, small)

pub spell-requires-clause-room : goal.spell-requires-clause-room
spell-requires-clause-room g c = room g (goal.at.spell-requires-clause-room g c).After-SIZE

pub returns-in-Some-clause-overwrite : goal.returns-in-Some-clause-overwrite
returns-in-Some-clause-overwrite g c len t bytes s =
    let size = g.T.Plain.SIZE in let more = flat_map g.T.Plain.spelling c.args.values.now in
    let long = flat-long size g.T.Plain.is_value g.T.Plain.spelling g.met.T.Plain.spells c.args.values.now
    c.spell.ensures.values in
    let change : ChangesBytes current c.args.heap.now c.spell.new.heap (c.in-Some.storage + size * c.args.first)
    (length more) = subst (λ k. ChangesBytes current c.args.heap.now c.spell.new.heap (c.in-Some.storage
    + size * c.args.first) k) (sym long) (subst (λ k. ChangesBytes current c.args.heap.now c.spell.new.heap
    (c.in-Some.storage + k * c.args.first) (size * length c.args.values.now)) c.SIZE.ensures c.spell.ensures.changes) in
    let content : HasBytesAt (bytes_of c.spell.new.heap.bytes) (c.in-Some.storage + size * c.args.first) more =
    subst (λ k. HasBytesAt (bytes_of c.spell.new.heap.bytes) (c.in-Some.storage + k * c.args.first) more) c.SIZE.ensures
    c.spell.ensures.content in
    overwritten-all c.args.first (length c.args.values.now) more s (omega (
      arith,
      c.requires.in_bounds,
      s.words.len_word,
    ))
    long (sym c.link_of.ensures ∙ c.in-Some.is) change content
