-- The next text is placed, and its element is written.
use Rattle.seg_vector.proofs.{◌≡◌, sym, ap, ◌∙◌, ◌*◌, arith, length, map, live_of, roomy, laid-all, laid-put, laid-heap}
use Rattle.seg_vector.proofs.{length-map, extent_at, drop-next, found-big, laid-begin, laid-room, laid-stops, text-even}
use Rattle.seg_vector.proofs.owning.place_texts.Goals as goal

pub loop-i-init : goal.loop-i-init
loop-i-init c y at found = laid-begin c.args.heap.now (map (λ text. text.now) c.args.texts.now) c.requires.heap
    (ap (λ k. extent_at (live_of c.args.heap.now.bytes) k) at ∙ found)

pub place_text-requires : goal.place_text-requires
place_text-requires c =
    let r = roomy c.args.heap.now c.args.array (16 * length c.args.texts.now) c.requires.heap c.requires.room in
    laid-heap _ _ (c.loop-i.invariant r.extent r.at r.found).change.live

pub returns-in-Err : goal.returns-in-Err
returns-in-Err c y at found =
    laid-stops (c.loop-i.invariant y at found) (drop-next c.args.texts.now c.loop-i.i _ c.loop-i-test.true)
    (omega (arith, c.loop-i-test.true, length-map c.args.texts.now (λ text. text.now))) c.in-Err.ensures

pub put_element-requires : goal.put_element-requires
put_element-requires c =
    let r = roomy c.args.heap.now c.args.array (16 * length c.args.texts.now) c.requires.heap c.requires.room in
    record {
      heap = laid-heap _ _ c.in-Ok.ensures.change.live;
      whole = omega arith;
      room = laid-room (length c.args.texts.now) c.args.array r.at (c.loop-i.invariant r.extent r.at r.found)
          c.in-Ok.ensures c.loop-i-test.true r.room;
      target = text-even c.in-Ok.ensures;
    }

pub loop-i-preserved : goal.loop-i-preserved
loop-i-preserved c y at found = laid-put (length c.args.texts.now) c.args.array at (c.loop-i.invariant y at found)
    (drop-next c.args.texts.now c.loop-i.i _ c.loop-i-test.true) c.loop-i-test.true
    (found-big c.args.heap.now c.args.array (16 * length c.args.texts.now) c.requires.heap c.requires.room found)
    c.in-Ok.ensures c.put_element.ensures.change c.put_element.ensures.link c.put_element.ensures.len_word

pub returns : goal.returns
returns c y at found =
    let all : c.loop-i.i ≡ length c.args.texts.now = omega (arith, c.loop-i-test.false, c.loop-i.auto.i-end) in
    laid-all (length c.args.texts.now) (c.loop-i.invariant y at found) all
    (sym (length-map c.args.texts.now (λ text. text.now)))
