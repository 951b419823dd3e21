-- The capacity is written, and the storage shortened.
use Rattle.seg_vector.proofs.{sym, subst, ◌∙◌, ◌*◌, arith, IsTrue, current, ShrinksInPlace, is_live_in, changed-live}
use Rattle.seg_vector.proofs.{fits-nothing, fitted, capacity-bytes, storage-live, more-times}
use Rattle.seg_vector.proofs.container_capacity.shrink_storage.Goals as goal

pub returns-then-len-eq0 : goal.returns-then-len-eq0
returns-then-len-eq0 c len t bytes s =
    let is = c.len_of-len.ensures ∙ s.words.len_word in
    fits-nothing s (sym is ∙ c.if-len-eq0.true) (c.free_storage.ensures len t bytes s)

pub overflow_mul-each : goal.overflow_mul-each
overflow_mul-each c =
    let s = c.requires.container.1.1.1 in let is = c.len_of-len.ensures ∙ s.words.len_word in
    let few = more-times c.args.each c.len_of-len.result c.requires.container.1.0.capacity (omega (
      arith,
      is,
      s.fits,
    )) in
    let small = capacity-bytes c.args.heap.now s.heap s in omega (arith, few, small)

pub shrink_in_place-requires : goal.shrink_in_place-requires
shrink_in_place-requires c = subst (λ l. IsTrue (is_live_in l c.in-Some.storage)) (sym (changed-live _ _ _ _ 8
    c.set_word.ensures.changes)) (storage-live c.requires.container.1.1.1 (sym c.link_of.ensures ∙ c.in-Some.is))

pub returns-in-Some : goal.returns-in-Some
returns-in-Some c len t bytes s =
    let is = c.len_of-len.ensures ∙ s.words.len_word in
    fitted {old = c.args.heap.now} {mid = c.set_word.new.self} {new = c.shrink_in_place.new.self}
    (omega (arith, is, c.if-len-eq0.false)) s (sym c.link_of.ensures ∙ c.in-Some.is) c.set_word.ensures.changes
    (c.set_word.ensures.word ∙ is) (subst (λ k. ShrinksInPlace current c.set_word.new.self c.shrink_in_place.new.self
    c.in-Some.storage (c.args.each * k)) is c.shrink_in_place.ensures.changes)
