-- The storage grows, and then the bytes are appended.
use Rattle.seg_vector.proofs.{◌++◌, arith, length, length-append, subst, live_of, capacity_for_text, ReservesStorageOk}
use Rattle.seg_vector.proofs.{LacksSpace, err_from_is_err_and, table-places, too-many, few-bytes, text-extended}
use Rattle.seg_vector.proofs.{text-grown-then, text-space, text-wanted, wanted-bytes}
use Rattle.seg_vector.proofs.strings.SegString.append.Goals as goal

pub overflow_add-needed : goal.overflow_add-needed
overflow_add-needed c =
    let few = few-bytes c.args.heap.now c.args.heap.now c.requires.1.1 in
    omega (
      arith,
      few,
      c.requires.1.1.fits,
      c.len.ensures c.requires.0 c.requires.1.0 c.requires.1.1,
      c.if-more-gt-MAX_SEGMENT_LEN.false,
    )

pub returns-then-more-gt-MAX_SEGMENT_LEN : goal.returns-then-more-gt-MAX_SEGMENT_LEN
returns-then-more-gt-MAX_SEGMENT_LEN c bytes t v =
    let n = capacity_for_text (length (bytes ++ c.args.bytes.now)) t.capacity in
    let enough = wanted-bytes (length (bytes ++ c.args.bytes.now)) t.capacity in
    too-many c.args.heap.now n v (omega arith)
    (omega (arith, enough, length-append bytes c.args.bytes.now, c.if-more-gt-MAX_SEGMENT_LEN.true))

pub capacity_for_text-wanted-requires : goal.capacity_for_text-wanted-requires
capacity_for_text-wanted-requires c =
    let few = few-bytes c.args.heap.now c.args.heap.now c.requires.1.1 in
    omega (arith, few, c.capacity.ensures c.requires.0 c.requires.1.0 c.requires.1.1)

pub extend-requires : goal.extend-requires
extend-requires c =
    let bytes = c.requires.0 in let t = c.requires.1.0 in let more = c.args.bytes.now in
    let wanted = text-wanted bytes more c.capacity_for_text-wanted.ensures (c.len.ensures bytes t c.requires.1.1)
    (c.capacity.ensures bytes t c.requires.1.1) in
    let grown = c.in_ok-reserve.ensures _ _ _ c.requires.1.1 in
    let places = table-places (live_of c.args.heap.now.bytes) 1 c.capacity_for_text-wanted.result t grown.grown in
    let enough = wanted-bytes (length (bytes ++ more)) t.capacity in record {
      container = (length bytes, (grown.table, (bytes, grown.stands)));
      space = text-space c.reserve.new.heap c.reserve.new.heap grown.stands more
          (omega (arith, places, wanted, enough, length-append bytes more));
      non_empty = omega arith;
      min_len = omega arith;
    }

pub returns-in_err-reserve : goal.returns-in_err-reserve
returns-in_err-reserve c bytes t v =
    let wanted = text-wanted bytes c.args.bytes.now c.capacity_for_text-wanted.ensures (c.len.ensures bytes t v)
    (c.capacity.ensures bytes t v) in
    let p = err_from_is_err_and c.from_residual.result c.from_residual.ensures.1 in
    rw (p.1, p.2) (subst (λ n. LacksSpace c.args.heap.now c.reserve.new.heap 1 n t c.in_err-reserve.field-0.0)
    wanted (c.in_err-reserve.ensures (length bytes) t bytes v))

pub returns : goal.returns
returns c bytes t v =
    let wanted = text-wanted bytes c.args.bytes.now c.capacity_for_text-wanted.ensures (c.len.ensures bytes t v)
    (c.capacity.ensures bytes t v) in
    let grown = subst (λ n. ReservesStorageOk c.args.heap.now c.reserve.new.heap c.args.self.place 1 n
    (length bytes) t bytes) wanted (c.in_ok-reserve.ensures (length bytes) t bytes v) in
    text-grown-then v grown
    (text-extended c.reserve.new.heap c.extend.new.heap grown.stands c.args.bytes.now c.extend.ensures)
