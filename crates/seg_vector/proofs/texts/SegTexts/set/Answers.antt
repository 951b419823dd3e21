-- The text is placed, the one before is released, and then the element is written.
use Rattle.seg_vector.proofs.texts.SegTexts.set.Goals as goal
use Rattle.seg_vector.proofs.texts.SegTexts.set.Goals.{After-release_text, In_ok-block}
use Rattle.seg_vector.proofs.{sym, refl, ◌∙◌, ◌+◌, ◌*◌, arith, length, live_of, left, no-array, none-left, room-less}
use Rattle.seg_vector.proofs.{text-set, texts-still, has-element, text-even, IsTexts, IsArrayLeft}

-- the new text has a block, and the vector is unchanged
still : (c : In_ok-block) → IsTexts c.place_text.new.heap.bytes c.args.self.place c.requires.0 c.requires.1.0
still c = texts-still c.requires.1.1 c.in_ok-block.ensures.change

pub link_of-requires-clause-room : goal.link_of-requires-clause-room
link_of-requires-clause-room c = (still (goal.at.link_of-requires-clause-room c).In_ok-block).room

pub release_text-requires : goal.release_text-requires
release_text-requires c =
    let q = has-element c.requires.0 c.args.index
    (omega (arith, c.if-index-len.false, c.len.ensures c.requires.0 c.requires.1.0 c.requires.1.1)) in (
      q.0,
      (left c.place_text.new.heap c.place_text.new.heap c.args.index
          (still (goal.at.release_text-requires c).In_ok-block) q.1 (sym c.link_of.ensures ∙ c.in-Some.is)).element,
    )

array-left : (c : After-release_text) → IsArrayLeft c.release_text.new.heap c.in-Some.array (length c.requires.0)
array-left c =
    let q = has-element c.requires.0 c.args.index
    (omega (arith, c.if-index-len.false, c.len.ensures c.requires.0 c.requires.1.0 c.requires.1.1)) in
    let w = left c.place_text.new.heap c.release_text.new.heap c.args.index
    (texts-still c.requires.1.1 c.in_ok-block.ensures.change) q.1 (sym c.link_of.ensures ∙ c.in-Some.is) in
    (w.after (c.release_text.ensures q.0 w.element).change).0

pub put_element-requires : goal.put_element-requires
put_element-requires c =
    let a = array-left (goal.at.put_element-requires c).After-release_text in record {
      heap = a.heap;
      whole = omega arith;
      room = room-less (live_of c.release_text.new.heap.bytes) c.in-Some.array (16 * length c.requires.0)
          (16 * c.args.index + 16)
          (omega (arith, c.if-index-len.false, c.len.ensures c.requires.0 c.requires.1.0 c.requires.1.1)) a.room;
      target = text-even c.in_ok-block.ensures;
    }

pub returns-in-Some : goal.returns-in-Some
returns-in-Some c ps t s =
    let pl = c.in_ok-block.ensures in let now = texts-still s pl.change in
    let link = sym c.link_of.ensures ∙ c.in-Some.is in let put = c.put_element.ensures in
    let q = has-element ps c.args.index (omega (arith, c.if-index-len.false, c.len.ensures ps t s)) in
    let w = left c.place_text.new.heap c.release_text.new.heap c.args.index now q.1 link in
    record {
      before = q.0;
      found = q.1;
      text = pl.text;
      placed = pl.placed;
      now = text-set c.args.index s q.1 pl link (c.release_text.ensures q.0 w.element) put.change put.link put.len_word
          refl;
    }

pub returns-in_default : goal.returns-in_default
returns-in_default c ps t s =
    let none = no-array c.place_text.new.heap (texts-still s c.in_ok-block.ensures.change)
    (sym c.link_of.ensures ∙ none-left c.link_of.result c.in_default.not-Some) in
    absurd (omega (arith, none, c.if-index-len.false, c.len.ensures ps t s))
