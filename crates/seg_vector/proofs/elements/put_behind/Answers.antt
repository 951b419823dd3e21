-- The elements are in the storage, and the length is in the container's own block.
use Rattle.seg_vector.proofs.{◌≡◌, ◌+◌, ◌*◌, ◌≤◌, sym, ap, subst, ◌∙◌, arith, ℕ, length, HasBytesAt, ChangesBytes}
use Rattle.seg_vector.proofs.{IsTrue, elements.put_behind.Goals.After-SIZE, elements.put_behind.Given.Over}
use Rattle.seg_vector.proofs.{all-none, at-least, bytes_of, capacity-bytes, current, extended, extended-not, flat-long}
use Rattle.seg_vector.proofs.{flat_map, has_room, live_of, more-times, none-left, none-more, room-small, some-room}
use Rattle.seg_vector.proofs.elements.put_behind.Goals as goal

-- the block has room for the new elements after the others
room : (g : Over) (c : After-SIZE g) → IsTrue (has_room (live_of c.args.heap.now.bytes) c.in-Some.storage
    (c.SIZE.result * c.len_of-len.result + g.T.Plain.SIZE * length c.args.values.now))
room g c =
    let s = c.requires.container.1.1.1 in let size = g.T.Plain.SIZE in let n = length c.args.values.now in
    let len : ℕ = c.len_of-len.result in
    let step : size * (len + n) ≡ size * len + size * n = omega arith in
    let less = more-times size (len + n) c.requires.container.1.0.capacity (omega (
      arith,
      c.len_of-len.ensures,
      c.requires.space,
      s.words.len_word,
      s.words.capacity,
    )) in
    subst (λ k. IsTrue (has_room (live_of c.args.heap.now.bytes) c.in-Some.storage (k * len + size * n)))
    (sym c.SIZE.ensures)
    (some-room (size * len + size * n) s (sym c.link_of.ensures ∙ c.in-Some.is) (omega (arith, less, step)))

pub overflow_mul-SIZE : goal.overflow_mul-SIZE
overflow_mul-SIZE g c =
    let small = room-small c.args.heap.now c.in-Some.storage (c.SIZE.result * c.len_of-len.result
    + g.T.Plain.SIZE * length c.args.values.now) c.requires.container.1.1.1.heap
    (room g (goal.at.overflow_mul-SIZE g c).After-SIZE) in
    omega (arith, small)

pub spell-requires-clause-room : goal.spell-requires-clause-room
spell-requires-clause-room g c = room g (goal.at.spell-requires-clause-room g c).After-SIZE

pub overflow_add-len : goal.overflow_add-len
overflow_add-len g c =
    let s = c.requires.container.1.1.1 in
    let small = capacity-bytes c.args.heap.now s.heap s in
    let least = at-least g.T.Plain.SIZE c.requires.container.1.0.capacity g.met.T.Plain.sizes.0 in
    omega (arith, c.len_of-len.ensures, small, least, c.requires.space, s.words.len_word, s.words.capacity)

pub returns-in-Some-clause-effect : goal.returns-in-Some-clause-effect
returns-in-Some-clause-effect g c len t bytes s =
    let size = g.T.Plain.SIZE in let more = flat_map g.T.Plain.spelling c.args.values.now in
    let n = length c.args.values.now in let A = c.args.heap.now in let B = c.spell.new.heap in
    let is : c.len_of-len.result ≡ len = c.len_of-len.ensures ∙ s.words.len_word in
    let long = flat-long size g.T.Plain.is_value g.T.Plain.spelling g.met.T.Plain.spells c.args.values.now
    c.spell.ensures.values in
    let at : c.SIZE.result * c.len_of-len.result ≡ size * len = λ i. c.SIZE.ensures i * is i in
    let change : ChangesBytes current A B (c.in-Some.storage + size * len) (length more) =
    subst (λ k. ChangesBytes current A B (c.in-Some.storage + size * len) k) (sym long)
    (subst (λ k. ChangesBytes current A B (c.in-Some.storage + k) (size * n)) at c.spell.ensures.changes) in
    let content : HasBytesAt (bytes_of B.bytes) (c.in-Some.storage + size * len) more =
    subst (λ k. HasBytesAt (bytes_of B.bytes) (c.in-Some.storage + k) more) at c.spell.ensures.content in
    extended {old = A} {s1 = B} {new = c.set_word.new.self} n more s
    (omega (arith, c.requires.space, s.words.len_word, s.words.capacity)) long (sym c.link_of.ensures ∙ c.in-Some.is)
    change content c.set_word.ensures.changes (c.set_word.ensures.word ∙ ap (λ k. k + n) is)

pub returns-in_default-clause-values : goal.returns-in_default-clause-values
returns-in_default-clause-values g c =
    let s = c.requires.container.1.1.1 in
    all-none g.T.Plain.is_value c.args.values.now (none-more c.args.heap.now (length c.args.values.now) s
    (omega (arith, c.requires.space, s.words.len_word, s.words.capacity))
    (sym c.link_of.ensures ∙ none-left c.link_of.result c.in_default.not-Some))

pub returns-in_default-clause-effect : goal.returns-in_default-clause-effect
returns-in_default-clause-effect g c len t bytes s =
    let more = flat_map g.T.Plain.spelling c.args.values.now in
    let n = length c.args.values.now in
    let few : len + n ≤ t.capacity = omega (arith, c.requires.space, s.words.len_word, s.words.capacity) in
    let link = sym c.link_of.ensures ∙ none-left c.link_of.result c.in_default.not-Some in
    extended-not c.args.heap.now n more s few (flat-long g.T.Plain.SIZE g.T.Plain.is_value g.T.Plain.spelling
    g.met.T.Plain.spells c.args.values.now (all-none g.T.Plain.is_value c.args.values.now
    (none-more c.args.heap.now n s few link))) link
