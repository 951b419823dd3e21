-- The elements are the first bytes of the storage.
use Rattle.seg_vector.proofs.{sym, ap, ◌∙◌, ◌*◌, arith, length, elements-fit, read-all, room-small, some-room}
use Rattle.seg_vector.proofs.{storage-live}
use Rattle.seg_vector.proofs.elements.elements.Goals as goal

pub block-requires : goal.block-requires
block-requires c = storage-live c.requires.1.1.1 (sym c.link_of.ensures ∙ c.in-Some.is)

pub overflow_mul-result : goal.overflow_mul-result
overflow_mul-result c =
    let s = c.requires.1.1.1 in let is = c.len_of-len.ensures ∙ s.words.len_word in
    let few = elements-fit c.len_of-len.result s (omega (arith, is)) in
    let small = room-small c.args.heap.now c.in-Some.storage (c.args.each * c.len_of-len.result) s.heap
    (some-room (c.args.each * c.len_of-len.result) s (sym c.link_of.ensures ∙ c.in-Some.is) few) in
    omega (arith, small)

pub slice_bounds-result-end-in-Some : goal.slice_bounds-result-end-in-Some
slice_bounds-result-end-in-Some c =
    let s = c.requires.1.1.1 in let is = c.len_of-len.ensures ∙ s.words.len_word in
    sym (ap length (read-all c.args.heap.now c.len_of-len.result c.block.result.now s is
    (sym c.link_of.ensures ∙ c.in-Some.is) c.block.ensures) ∙ s.long ∙ ap (λ k. c.args.each * k) (sym is))

pub returns-in-Some : goal.returns-in-Some
returns-in-Some c len t bytes s =
    let is = c.len_of-len.ensures ∙ s.words.len_word in
    read-all c.args.heap.now c.len_of-len.result c.block.result.now s is (sym c.link_of.ensures ∙ c.in-Some.is)
    c.block.ensures
