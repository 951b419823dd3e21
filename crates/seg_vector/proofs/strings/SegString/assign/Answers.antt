-- The storage grows, and then the bytes are written from the front.
use Rattle.seg_vector.proofs.{arith, length, [], live_of, table-places, text-extended, text-grown-then, text-space}
use Rattle.seg_vector.proofs.{text-then}
use Rattle.seg_vector.proofs.strings.SegString.assign.Goals as goal

pub clear-requires : goal.clear-requires
clear-requires c =
    let grown = c.in_ok-reserve.ensures _ _ _ c.requires.1.1 in (c.requires.0, (grown.table, grown.stands))

pub extend-requires : goal.extend-requires
extend-requires c =
    let grown = c.in_ok-reserve.ensures _ _ _ c.requires.1.1 in
    let places = table-places (live_of c.args.heap.now.bytes) 1 (length c.args.bytes.now) c.requires.1.0 grown.grown in
    let text = (c.clear.ensures c.requires.0 grown.table grown.stands).text in record {
      container = (0, (grown.table, ([], text)));
      space = text-space c.clear.new.heap c.clear.new.heap text c.args.bytes.now (omega (arith, places));
      non_empty = omega arith;
      min_len = omega arith;
    }

pub returns : goal.returns
returns c bytes t v =
    let grown = c.in_ok-reserve.ensures (length bytes) t bytes v in
    let cleared = c.clear.ensures bytes grown.table grown.stands in
    text-grown-then v grown (text-then grown.stands cleared
    (text-extended c.clear.new.heap c.extend.new.heap cleared.text c.args.bytes.now c.extend.ensures))
