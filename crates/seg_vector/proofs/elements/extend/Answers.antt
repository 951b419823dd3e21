-- The elements are in the storage, and the length is in the container's own block.
use Rattle.seg_vector.proofs.elements.extend.Goals as goal
use Rattle.seg_vector.proofs.{◌≡◌, bytes_of, ChangesBytes, none-left, capacity-bytes, extended-not, more-times}
use Rattle.seg_vector.proofs.{some-room, sym, ap, subst, ◌∙◌, ◌+◌, ◌*◌, ◌≤◌, ℕ, arith, length, current, HasBytesAt}
use Rattle.seg_vector.proofs.{at-least, extended}

pub overflow_mul-each : goal.overflow_mul-each
overflow_mul-each c =
    let s = c.requires.container.1.1.1 in let is = c.len_of-len.ensures ∙ s.words.len_word in
    let small = capacity-bytes c.args.heap.now s.heap s in
    let less = more-times c.args.each c.len_of-len.result c.requires.container.1.0.capacity (omega (
      arith,
      is,
      s.fits,
    )) in
    omega (arith, small, less)

pub write-requires : goal.write-requires
write-requires c =
    let s = c.requires.container.1.1.1 in let is = c.len_of-len.ensures ∙ s.words.len_word in
    let n : ℕ = c.len_of-len.result + c.args.n in
    let within : n ≤ c.requires.container.1.0.capacity =
    omega (arith, is, c.requires.space, s.words.len_word, s.words.capacity) in
    let less = more-times c.args.each n c.requires.container.1.0.capacity within in
    let step : c.args.each * n ≡ c.args.each * c.len_of-len.result + c.args.each * c.args.n = omega arith in
    some-room (c.args.each * c.len_of-len.result + length c.args.bytes.now) s (sym c.link_of.ensures ∙ c.in-Some.is)
    (omega (arith, less, step, c.requires.min_len))

pub overflow_add-len : goal.overflow_add-len
overflow_add-len c =
    let s = c.requires.container.1.1.1 in let is = c.len_of-len.ensures ∙ s.words.len_word in
    let small = capacity-bytes c.args.heap.now s.heap s in
    let least = at-least c.args.each c.requires.container.1.0.capacity c.requires.non_empty in
    omega (arith, is, small, least, c.requires.space, s.words.len_word, s.words.capacity)

pub returns-in-Some : goal.returns-in-Some
returns-in-Some c len t bytes s =
    let is = c.len_of-len.ensures ∙ s.words.len_word in
    extended {old = c.args.heap.now} {s1 = c.write.new.self} {new = c.set_word.new.self} c.args.n c.args.bytes.now s
    (omega (arith, c.requires.space, s.words.len_word, s.words.capacity)) c.requires.min_len (sym c.link_of.ensures
    ∙ c.in-Some.is) (subst (λ k. ChangesBytes current c.args.heap.now c.write.new.self (c.in-Some.storage + c.args.each
    * k) (length c.args.bytes.now)) is c.write.ensures.changes)
    (subst (λ k. HasBytesAt (bytes_of c.write.new.self.bytes)
    (c.in-Some.storage + c.args.each * k) c.args.bytes.now) is c.write.ensures.content) c.set_word.ensures.changes
    (c.set_word.ensures.word ∙ ap (λ k. k + c.args.n) is)

pub returns-in_default : goal.returns-in_default
returns-in_default c len t bytes s = extended-not c.args.heap.now c.args.n c.args.bytes.now s
    (omega (arith, c.requires.space, s.words.len_word, s.words.capacity)) c.requires.min_len
    (sym c.link_of.ensures ∙ none-left c.link_of.result c.in_default.not-Some)
