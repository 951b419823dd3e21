-- The elements after the place move up, the element is written, and then the length.
use Rattle.seg_vector.proofs.{ℕ, sym, ◌∙◌, ◌+◌, ◌-◌, ◌*◌, arith, length, bytes_of, live_of, changed-room, laid-heap}
use Rattle.seg_vector.proofs.{room-less, head-room, len-room, even-from, put-by, put-even, put-place, put-run}
use Rattle.seg_vector.proofs.text_arrays.insert_element.Goals as goal

pub len_of-len-requires : goal.len_of-len-requires
len_of-len-requires c = let q = put-run c.requires.ready in record { heap = q.heap; room = head-room q.head }

pub link_of-requires-clause-room : goal.link_of-requires-clause-room
link_of-requires-clause-room c = head-room (put-run c.requires.ready).head

pub overflow_mul-index : goal.overflow_mul-index
overflow_mul-index c =
    let w = put-place c.requires (sym c.link_of.ensures ∙ c.in-Some.is) in omega (arith, w.small, w.inside)

pub overflow_mul-index-in-Some : goal.overflow_mul-index-in-Some
overflow_mul-index-in-Some c =
    let w = put-place c.requires (sym c.link_of.ensures ∙ c.in-Some.is) in omega (arith, w.small, w.inside)

pub move_elements_up-requires : goal.move_elements_up-requires
move_elements_up-requires c =
    let w = put-place c.requires (sym c.link_of.ensures ∙ c.in-Some.is) in let at : ℕ = 16 * c.args.index in
    rw (c.len_of-len.ensures ∙ w.count) (record {
      heap = w.heap;
      whole = omega arith;
      room = room-less (live_of c.args.heap.now.bytes) c.in-Some.array (16 * length c.requires.ps + 16)
          (at + 16 * (length c.requires.ps - c.args.index) + 16) (omega (arith, w.inside)) w.room;
      even = even-from (bytes_of c.args.heap.now.bytes) c.in-Some.array (c.in-Some.array + at) c.args.index
          (length c.requires.ps - c.args.index) (length c.requires.ps) w.even (omega arith) (omega (arith, w.inside));
    })

pub put_element-requires : goal.put_element-requires
put_element-requires c =
    let w = put-place c.requires (sym c.link_of.ensures ∙ c.in-Some.is) in let d = c.move_elements_up.ensures.change in
    record {
      heap = laid-heap _ _ d.live;
      whole = omega arith;
      room = changed-room _ _ _ _ _ c.in-Some.array (16 * c.args.index + 16) d
          (room-less (live_of c.args.heap.now.bytes) c.in-Some.array (16 * length c.requires.ps + 16)
          (16 * c.args.index + 16) (omega (arith, w.inside)) w.room);
      target = put-even c.requires;
    }

pub overflow_add-len : goal.overflow_add-len
overflow_add-len c =
    let w = put-place c.requires (sym c.link_of.ensures ∙ c.in-Some.is) in
    omega (arith, w.small, w.count, c.len_of-len.ensures)

pub set_word-requires : goal.set_word-requires
set_word-requires c = changed-room _ _ _ _ 16 c.args.place.handle (c.args.place.at + 8 + 8) c.put_element.ensures.change
    (changed-room _ _ _ _ _ c.args.place.handle (c.args.place.at + 8 + 8) c.move_elements_up.ensures.change
    (len-room c.args.heap.now.bytes c.args.place (head-room (put-run c.requires.ready).head)))

pub returns-in-Some : goal.returns-in-Some
returns-in-Some c first ps t y m z r inside at len = put-by c.args.index c.len_of-len.result c.args.text_len c.args.text
    r inside at len (sym c.link_of.ensures ∙ c.in-Some.is) c.len_of-len.ensures c.move_elements_up.ensures.change
    c.move_elements_up.ensures.carried c.put_element.ensures.change c.put_element.ensures.link
    c.put_element.ensures.len_word c.set_word.ensures.changes c.set_word.ensures.word
