-- The texts are laid out, and then the words are written.
use Rattle.seg_vector.proofs.{◌<◌, sym, arith, length, map, length-map, head-still, laid-even, laid-heap, makes-some}
use Rattle.seg_vector.proofs.{made-texts}
use Rattle.seg_vector.proofs.texts.SegTexts.with_texts.Goals as goal

pub set_words-requires : goal.set_words-requires
set_words-requires c = record {
  heap = laid-heap _ _ c.in_ok-storage.ensures.change.live;
  aligned = c.requires.aligned;
  room = head-still c.args.place c.requires.heap c.requires.room c.in_ok-storage.ensures.change;
  target_aligned = laid-even c.in_ok-storage.ensures;
}

pub returns : goal.returns
returns c =
    let more = map (λ text. text.now) c.args.texts.now in let long = length-map c.args.texts.now (λ text. text.now) in
    let some : 0 < length c.args.texts.now = omega (arith, c.if-n-eq0.false) in
    makes-some c.args.heap.now c.set_words.new.heap c.args.place more (omega (arith, long, some))
    (made-texts (length c.args.texts.now) c.requires.heap c.requires.aligned c.requires.room c.in_ok-storage.ensures
    (sym long) some c.set_words.ensures)
