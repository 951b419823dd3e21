-- The vector's words stay until they are written.
use Rattle.seg_vector.proofs.text_arrays.install_array.Goals as goal
use Rattle.seg_vector.proofs.{refl, sym, ap, subst, ◌∙◌, ◌+◌, ◌*◌, Some, length, current, bytes_of, ChangesBytes}
use Rattle.seg_vector.proofs.{live_of, changed-room, laid-heap, SameElements, head-room, live-if, adopt-none}
use Rattle.seg_vector.proofs.{adopt-other, adopt-same, ready, ready-even, ready-new, ready-link, none-left}
use Rattle.seg_vector.proofs.text_arrays.install_array.Goals.{in-Some+else-old-array, in_default}

pub len_of-len-requires : goal.len_of-len-requires
len_of-len-requires c = let r = (ready c.requires).run in record { heap = r.heap; room = head-room r.head }

pub link_of-requires-clause-room : goal.link_of-requires-clause-room
link_of-requires-clause-room c = head-room (ready c.requires).run.head

pub set_storage-requires-2 : goal.set_storage-requires-2
set_storage-requires-2 c =
    let r = c.requires in let q = (ready r).run in
    record { heap = q.heap; aligned = r.texts.aligned; room = head-room q.head; target_aligned = ready-even r }

pub move_elements_down-requires : goal.move_elements_down-requires
move_elements_down-requires c =
    let w = ready-new c.requires (sym c.link_of.ensures ∙ c.in-Some.is) c.if-old-array.true in
    rw (c.len_of-len.ensures ∙ (ready c.requires).run.words.len_word) (record {
      heap = (ready c.requires).run.heap;
      from_whole = refl;
      to_whole = refl;
      source = w.source;
      target = w.target;
      even = w.even;
      apart = w.apart;
    })

pub set_storage-requires : goal.set_storage-requires
set_storage-requires c =
    let r = c.requires in let d = c.move_elements_down.ensures.change in
    record {
      heap = laid-heap _ _ d.live;
      aligned = r.texts.aligned;
      room = changed-room _ _ _ _ _ c.args.place.handle (c.args.place.at + 24) d (head-room (ready r).run.head);
      target_aligned = ready-even r;
    }

pub deallocate-requires : goal.deallocate-requires
deallocate-requires c =
    let w = ready-new c.requires (sym c.link_of.ensures ∙ c.in-Some.is) c.if-old-array.true in
    live-if c.in-Some.old (0 + 16 * length c.requires.ps) (live_of c.set_storage.new.heap.bytes).extents
    (changed-room _ _ _ _ 24 c.in-Some.old (0 + 16 * length c.requires.ps) c.set_storage.ensures.change
    (changed-room _ _ _ _ _ c.in-Some.old (0 + 16 * length c.requires.ps) c.move_elements_down.ensures.change w.source))

pub returns-then-old-array : goal.returns-then-old-array
returns-then-old-array c r =
    let n = c.len_of-len.ensures ∙ (ready r).run.words.len_word in
    adopt-other c.args.n r.texts r.more r.asked r.since (sym (ready-link r) ∙ sym c.link_of.ensures ∙ c.in-Some.is)
    c.if-old-array.true (subst (λ k.
    ChangesBytes current c.args.heap.now c.move_elements_down.new.heap (c.args.array + 0)
    (16 * k)) n c.move_elements_down.ensures.change) (subst (SameElements (bytes_of c.args.heap.now.bytes)
    (bytes_of c.move_elements_down.new.heap.bytes) (c.in-Some.old + 0) (c.args.array + 0)) n
    c.move_elements_down.ensures.carried) c.set_storage.ensures c.deallocate.ensures.released

pub returns : goal.returns
returns c r = elim c.match-link_of.branch [
  | in-Some+else-old-array w ↦ adopt-same c.args.n r.texts r.more r.asked r.since r.still (sym (ready-link r)
      ∙ sym c.link_of.ensures ∙ w.in-Some.is ∙ ap (λ k. Some k) w.if-old-array.false) c.set_storage-2.ensures
  | in_default w ↦ adopt-none c.args.n r.texts r.more r.asked r.since (sym (ready-link r) ∙ sym c.link_of.ensures
      ∙ none-left c.link_of.result w.in_default.not-Some) c.set_storage-2.ensures
]
