-- The elements after the erased one move down, and the length is written.
use Rattle.seg_vector.proofs.{take, drop, ◌++◌, ℕ, ◌*◌, ◌+◌, ◌-◌, sym, subst, ◌∙◌, arith, IsContainer, RewritesElements}
use Rattle.seg_vector.proofs.{live_of}
use Rattle.seg_vector.proofs.{Fitting, erase-fits, erased, part-room, elements.erase_element.Goals.In-Some}
use Rattle.seg_vector.proofs.elements.erase_element.Goals as goal

fits : (c : In-Some) → Fitting (live_of c.args.heap.now.bytes) c.args.each c.args.index
    (c.args.each * (c.len_of-len.result - c.args.index - 1)) c.in-Some.storage
fits c = erase-fits c.args.heap.now c.len_of-len.result c.args.index c.requires.container.1.1.1 c.len_of-len.ensures
    c.requires.in_bounds (sym c.link_of.ensures ∙ c.in-Some.is)

pub overflow_mul-from : goal.overflow_mul-from
overflow_mul-from c = omega (arith, (fits (goal.at.overflow_mul-from c).In-Some).small)

pub overflow_mul-behind : goal.overflow_mul-behind
overflow_mul-behind c = omega (arith, (fits (goal.at.overflow_mul-behind c).In-Some).small)

pub overflow_add-from : goal.overflow_add-from
overflow_add-from c = omega (arith, (fits (goal.at.overflow_add-from c).In-Some).small)

pub copy-requires : goal.copy-requires
copy-requires c =
    let f = fits (goal.at.copy-requires c).In-Some in record {
      source = f.room;
      target = part-room (c.args.each * c.args.index + c.args.each * (c.len_of-len.result - c.args.index - 1))
          (omega arith) f;
    }

pub returns-in-Some : goal.returns-in-Some
returns-in-Some c len t bytes s =
    let is = c.len_of-len.ensures ∙ s.words.len_word in let at : ℕ = c.args.each * c.args.index in
    let now = subst (λ n. IsContainer c.args.heap.now.bytes c.args.place c.args.each n t bytes) (sym is) s in
    subst (λ n. RewritesElements c.args.heap.now c.set_word.new.self c.args.place c.args.each (n - 1) t
    (take at bytes ++ drop (at + c.args.each) bytes)) is
    (erased {old = c.args.heap.now} {s1 = c.copy.new.self} {new = c.set_word.new.self} c.args.index now
    (omega (arith, c.requires.in_bounds, now.words.len_word)) (sym c.link_of.ensures ∙ c.in-Some.is)
    c.copy.ensures.changes c.copy.ensures.content c.set_word.ensures.changes c.set_word.ensures.word)
