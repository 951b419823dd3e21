-- The array is allocated, and then the texts; or all blocks are freed.
use Rattle.seg_vector.proofs.{sym, length, map, length-map, err_from_is_err_and, array-live, array-taken, laid-held}
use Rattle.seg_vector.proofs.{laid-out, no-space, out-of-reach, taken-off}
use Rattle.seg_vector.proofs.owning.store_array.Goals as goal

pub returns-then-n-gt-MAX_SEGMENT_LEN : goal.returns-then-n-gt-MAX_SEGMENT_LEN
returns-then-n-gt-MAX_SEGMENT_LEN c = out-of-reach c.args.heap.now (length c.args.texts.now) (map (λ text. text.now)
    c.args.texts.now) c.requires.heap (sym (length-map c.args.texts.now (λ text. text.now)))
    c.if-n-gt-MAX_SEGMENT_LEN.true

pub place_texts-placed-requires : goal.place_texts-placed-requires
place_texts-placed-requires c =
    let t = array-taken (length c.args.texts.now) c.in_ok-array.ensures in record { heap = t.heap; room = t.room }

pub returns-then-placed-n : goal.returns-then-placed-n
returns-then-placed-n c =
    let n = length c.args.texts.now in let t = array-taken n c.in_ok-array.ensures in
    laid-out t (sym (length-map c.args.texts.now (λ text. text.now)))
    (c.place_texts-placed.ensures t.block t.at t.found) c.if-placed-n.true

pub release_texts-requires : goal.release_texts-requires
release_texts-requires c =
    let n = length c.args.texts.now in let t = array-taken n c.in_ok-array.ensures in
    let w = c.place_texts-placed.ensures t.block t.at t.found in
    (w.laid.texts, laid-held t (sym (length-map c.args.texts.now (λ text. text.now))) w)

pub deallocate-requires : goal.deallocate-requires
deallocate-requires c =
    let n = length c.args.texts.now in
    let t = array-taken n c.in_ok-array.ensures in let w = c.place_texts-placed.ensures t.block t.at t.found in
    let h = laid-held t (sym (length-map c.args.texts.now (λ text. text.now))) w in
    array-live t w (c.release_texts.ensures w.laid.texts h).change

pub returns-in_err-array : goal.returns-in_err-array
returns-in_err-array c =
    let p = err_from_is_err_and c.from_residual.result c.from_residual.ensures.1 in
    rw (p.1, p.2) (no-space (length c.args.texts.now) (map (λ text. text.now) c.args.texts.now) c.requires.heap
    c.requires.non_empty (sym (length-map c.args.texts.now (λ text. text.now))) c.in_err-array.ensures)

pub returns : goal.returns
returns c =
    let n = length c.args.texts.now in
    let e = sym (length-map c.args.texts.now (λ text. text.now)) in let t = array-taken n c.in_ok-array.ensures in
    let w = c.place_texts-placed.ensures t.block t.at t.found in let h = laid-held t e w in
    taken-off t e c.requires.non_empty w c.if-placed-n.false
    (c.release_texts.ensures w.laid.texts h).change c.deallocate.ensures.released
