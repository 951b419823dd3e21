-- An element that is replaced lies in the storage; before an element is inserted, the elements from its place on move
-- up.
use Rattle.seg_vector.proofs.elements.put_at.Goals as goal
use Rattle.seg_vector.proofs.elements.put_at.Goals.{In-Some, In-Some-link_of}
use Rattle.seg_vector.proofs.{take, drop, ◌++◌, ℕ, ◌*◌, ◌+◌, ◌-◌, ◌<◌, ◌≤◌, sym, subst, ◌∙◌, arith, IsTrue, IsContainer}
use Rattle.seg_vector.proofs.{RewritesElements, ChangesBytes, live_of, has_room, current, changed-room, Fitting}
use Rattle.seg_vector.proofs.{at-least, PutsAt, bytes_of, capacity-bytes, element-fits, insert-fits, overwritten}
use Rattle.seg_vector.proofs.{part-room, place_at, put_in, room-small, some-room, word_at}
use Rattle.seg_vector.specs.Elements.{HasSpot}

-- the storage has room for the element that is replaced
over : (c : In-Some) → let end = c.args.each * c.in-Over.index + c.args.each in
    IsTrue (has_room (live_of c.args.heap.now.bytes) c.in-Some.storage end)
over c =
    let s = c.requires.container.1.1.1 in
    let inside = subst (λ spot. HasSpot c.args.heap.now.bytes c.args.place spot) c.in-Over.is c.requires.spot in
    some-room (c.args.each * c.in-Over.index + c.args.each) s (sym c.link_of.ensures ∙ c.in-Some.is)
    (element-fits c.in-Over.index s (omega (arith, inside, s.words.len_word)))

pub overflow_mul-each : goal.overflow_mul-each
overflow_mul-each c =
    let small = room-small c.args.heap.now c.in-Some.storage (c.args.each * c.in-Over.index + c.args.each)
    c.requires.container.1.1.1.heap (over (goal.at.overflow_mul-each c).In-Some) in
    omega (arith, small)

pub write-requires : goal.write-requires
write-requires c = subst (λ k. IsTrue (has_room (live_of c.args.heap.now.bytes) c.in-Some.storage
    (c.args.each * c.in-Over.index + k))) (sym c.requires.min_len) (over (goal.at.write-requires c).In-Some)

pub returns-in-Some : goal.returns-in-Some
returns-in-Some c =
    let A = c.args.heap.now in let p = c.args.place in let k = c.args.each in
    let inside = subst (λ spot. HasSpot A.bytes p spot) c.in-Over.is c.requires.spot in
    subst (λ spot. PutsAt A c.write.new.self p k spot c.args.bytes.now) (sym c.in-Over.is)
    (λ len t bytes s. overwritten c.in-Over.index c.args.bytes.now s (omega (arith, inside, s.words.len_word))
    c.requires.min_len (sym c.link_of.ensures ∙ c.in-Some.is) c.write.ensures.changes c.write.ensures.content)

-- the capacity allows one more, and the index is at most the length
before : (c : In-Some-link_of) → let b = c.args.heap.now.bytes in let at = place_at c.args.place in
    (word_at (bytes_of b) (at + 8) < word_at (bytes_of b) (at + 16))
    × (c.in-Before.index ≤ word_at (bytes_of b) (at + 8))
before c = subst (λ spot. HasSpot c.args.heap.now.bytes c.args.place spot) c.in-Before.is c.requires.spot

fits : (c : In-Some-link_of) → Fitting (live_of c.args.heap.now.bytes) c.args.each c.in-Before.index
    (c.args.each * (c.len_of-len.result - c.in-Before.index)) c.in-Some-link_of.storage
fits c = let h = before c in
    insert-fits c.args.heap.now c.len_of-len.result c.in-Before.index c.requires.container.1.1.1 c.len_of-len.ensures
    h.1 h.0 (sym c.link_of-in-Before.ensures ∙ c.in-Some-link_of.is)

pub overflow_mul-from : goal.overflow_mul-from
overflow_mul-from c = omega (arith, (fits (goal.at.overflow_mul-from c).In-Some-link_of).small)

pub overflow_mul-behind : goal.overflow_mul-behind
overflow_mul-behind c = omega (arith, (fits (goal.at.overflow_mul-behind c).In-Some-link_of).small)

pub overflow_add-from : goal.overflow_add-from
overflow_add-from c = omega (arith, (fits (goal.at.overflow_add-from c).In-Some-link_of).small)

pub copy-requires : goal.copy-requires
copy-requires c =
    let f = fits (goal.at.copy-requires c).In-Some-link_of in record {
      source = part-room (c.args.each * c.in-Before.index + c.args.each * (c.len_of-len.result - c.in-Before.index))
          (omega arith) f;
      target = f.room;
    }

pub write-requires-in-Some-link_of : goal.write-requires-in-Some-link_of
write-requires-in-Some-link_of c =
    let at = c.args.each * c.in-Before.index in let storage = c.in-Some-link_of.storage in
    subst (λ k. IsTrue (has_room (live_of c.copy.new.self.bytes) storage (at + k))) (sym c.requires.min_len)
    (changed-room _ _ _ _ _ storage (at + c.args.each) c.copy.ensures.changes
    (part-room (at + c.args.each) (omega arith) (fits (goal.at.write-requires-in-Some-link_of c).In-Some-link_of)))

pub overflow_add-len : goal.overflow_add-len
overflow_add-len c =
    let s = c.requires.container.1.1.1 in let is = c.len_of-len.ensures ∙ s.words.len_word in
    let few = capacity-bytes c.args.heap.now s.heap s in
    let least = at-least c.args.each c.requires.container.1.0.capacity c.requires.non_empty in
    omega (arith, is, few, least, s.fits)

pub returns-in-Some-link_of : goal.returns-in-Some-link_of
returns-in-Some-link_of c =
    let h = before (goal.at.returns-in-Some-link_of c).In-Some-link_of in let A = c.args.heap.now in
    let D = c.set_word.new.self in let p = c.args.place in let k = c.args.each in let more = c.args.bytes.now in
    subst (λ spot. PutsAt A D p k spot more) (sym c.in-Before.is) (λ len t bytes s.
    let is = c.len_of-len.ensures ∙ s.words.len_word in let at : ℕ = k * c.in-Before.index in
    let now = subst (λ n. IsContainer A.bytes p k n t bytes) (sym is) s in
    subst (λ n. RewritesElements A D p k (n + 1) t (take at bytes ++ (more ++ drop at bytes))) is (put_in {old = A}
    {s1 = c.copy.new.self} {s2 = c.write-in-Some-link_of.new.self} {new = D} c.in-Before.index more now
    (omega (arith, h.1, now.words.len_word)) (omega (arith, h.0, now.words.len_word, now.words.capacity))
    c.requires.min_len (sym c.link_of-in-Before.ensures ∙ c.in-Some-link_of.is) c.copy.ensures.changes
    c.copy.ensures.content (subst (λ n. ChangesBytes current c.copy.new.self c.write-in-Some-link_of.new.self
    (c.in-Some-link_of.storage + at) n) c.requires.min_len c.write-in-Some-link_of.ensures.changes)
    c.write-in-Some-link_of.ensures.content c.set_word.ensures.changes c.set_word.ensures.word))
