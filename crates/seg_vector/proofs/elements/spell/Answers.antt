-- The values are spelled into the payload of the block, which the heap has then.
use Rattle.seg_vector.proofs.elements.spell.Goals as goal
use Rattle.seg_vector.proofs.{◌+◌, ◌*◌, ◌≤◌, ap, sym, subst, ◌∙◌, ℕ, List, ChangesBytes, IsTrue, current, flat-long}
use Rattle.seg_vector.proofs.{flat_map, has_room, length, live-if, live_of, patched, payload-room, payload-spelled}
use Rattle.best_fit.specs.Heap.{with_payload}

pub block_mut-requires : goal.block_mut-requires
block_mut-requires g c = live-if c.args.handle (c.args.at + g.T.Plain.SIZE * length c.args.values.now)
    (live_of c.args.heap.now.bytes).extents c.requires.room

pub put_spellings-requires : goal.put_spellings-requires
put_spellings-requires g c =
    let n : ℕ = c.args.at + g.T.Plain.SIZE * length c.args.values.now in
    subst (λ (bs : List ℕ). n ≤ length bs) (sym c.block_mut.ensures.bytes)
    (payload-room c.args.heap.now c.args.handle n c.requires.heap c.requires.room)

pub returns-clause-changes : goal.returns-clause-changes
returns-clause-changes g c =
    let bs = flat_map g.T.Plain.spelling c.args.values.now in
    let long = flat-long g.T.Plain.SIZE g.T.Plain.is_value g.T.Plain.spelling g.met.T.Plain.spells c.args.values.now
    c.put_spellings.ensures.values in
    let room = subst (λ k. IsTrue (has_room (live_of c.args.heap.now.bytes) c.args.handle (c.args.at + k))) (sym long)
    c.requires.room in
    subst (λ k. ChangesBytes current c.args.heap.now
    (with_payload c.args.heap.now c.args.handle c.put_spellings.new.slice)
    (c.args.handle + c.args.at) k) long (payload-spelled c.loans_write_one_block.ensures c.args.heap.now c.args.handle
    c.args.at bs c.requires.heap room c.put_spellings.new.slice (c.put_spellings.ensures.slice
    ∙ ap (λ (p : List ℕ). patched p c.args.at bs) c.block_mut.ensures.bytes)).0

pub returns-clause-content : goal.returns-clause-content
returns-clause-content g c =
    let bs = flat_map g.T.Plain.spelling c.args.values.now in
    let long = flat-long g.T.Plain.SIZE g.T.Plain.is_value g.T.Plain.spelling g.met.T.Plain.spells c.args.values.now
    c.put_spellings.ensures.values in
    let room = subst (λ k. IsTrue (has_room (live_of c.args.heap.now.bytes) c.args.handle (c.args.at + k))) (sym long)
    c.requires.room in
    (payload-spelled c.loans_write_one_block.ensures c.args.heap.now c.args.handle c.args.at bs c.requires.heap room
    c.put_spellings.new.slice (c.put_spellings.ensures.slice ∙ ap (λ (p : List ℕ). patched p c.args.at bs)
    c.block_mut.ensures.bytes)).1
