-- The block of the text is freed, the texts after it move down, and then the length is written.
use Rattle.seg_vector.proofs.{ℕ, inl, sym, ◌∙◌, ◌+◌, ◌-◌, ◌*◌, arith, length, bytes_of, live_of, changed-room}
use Rattle.seg_vector.proofs.{room-less, IsHead, head-room, len-room, IsArrayLeft, even-from, erased-by, left}
use Rattle.seg_vector.proofs.{has-element, texts.SegTexts.erase.Goals.After-release_text}
use Rattle.seg_vector.proofs.texts.SegTexts.erase.Goals as goal

pub release_text-requires : goal.release_text-requires
release_text-requires c =
    let q = has-element c.requires.0 c.args.index
    (omega (arith, c.if-index-len.false, c.len-len.ensures c.requires.0 c.requires.1.0 c.requires.1.1)) in (
      q.0,
      (left c.args.heap.now c.args.heap.now c.args.index c.requires.1.1 q.1
          (sym c.link_of.ensures ∙ c.in-Some.is)).element,
    )

left-at : (c : After-release_text) → IsArrayLeft c.release_text.new.heap c.in-Some.array (length c.requires.0) × IsHead
    c.release_text.new.heap c.args.self.place
left-at c =
    let q = has-element c.requires.0 c.args.index
    (omega (arith, c.if-index-len.false, c.len-len.ensures c.requires.0 c.requires.1.0 c.requires.1.1)) in
    let w = left c.args.heap.now c.release_text.new.heap c.args.index c.requires.1.1 q.1
    (sym c.link_of.ensures ∙ c.in-Some.is) in
    w.after (c.release_text.ensures q.0 w.element).change

pub move_elements_down-requires : goal.move_elements_down-requires
move_elements_down-requires c =
    let a = (left-at (goal.at.move_elements_down-requires c).After-release_text).0 in let k = length c.requires.0 in
    let n = c.len-len.ensures c.requires.0 c.requires.1.0 c.requires.1.1 in
    let l = live_of c.release_text.new.heap.bytes in let at : ℕ = 16 * c.args.index in
    let rest : ℕ = c.len-len.result - c.args.index - 1 in
    record {
      heap = a.heap;
      from_whole = omega arith;
      to_whole = omega arith;
      source = room-less l c.in-Some.array (16 * k) (at + 16 + 16 * rest) (omega (arith, c.if-index-len.false, n))
          a.room;
      target = room-less l c.in-Some.array (16 * k) (at + 16 * rest) (omega (arith, c.if-index-len.false, n)) a.room;
      even = even-from (bytes_of c.release_text.new.heap.bytes) c.in-Some.array (c.in-Some.array + (at + 16))
          (c.args.index + 1) rest k a.even (omega arith) (omega (arith, c.if-index-len.false, n));
      apart = inl (omega arith);
    }

pub set_word-requires : goal.set_word-requires
set_word-requires c = changed-room _ _ _ _ _ c.args.self.place.handle (c.args.self.place.at + 8 + 8)
    c.move_elements_down.ensures.change (len-room c.release_text.new.heap.bytes c.args.self.place
    (head-room (left-at (goal.at.set_word-requires c).After-release_text).1))

pub returns-in-Some : goal.returns-in-Some
returns-in-Some c ps t s =
    let n = c.len-len.ensures ps t s in let q = has-element ps c.args.index (omega (arith, c.if-index-len.false, n)) in
    let w = left c.args.heap.now c.release_text.new.heap c.args.index s q.1 (sym c.link_of.ensures ∙ c.in-Some.is) in
    record {
      before = q.0;
      found = q.1;
      now = erased-by c.args.index c.len-len.result s q.1 (sym c.link_of.ensures ∙ c.in-Some.is) n
          (c.release_text.ensures q.0 w.element) c.move_elements_down.ensures.change
          c.move_elements_down.ensures.carried
          c.set_word.ensures.changes c.set_word.ensures.word;
    }
