-- One byte is written.
use Rattle.seg_vector.proofs.{◌<◌, arith, length, byte-set}
use Rattle.seg_vector.proofs.strings.SegString.set.Goals as goal

pub returns : goal.returns
returns c bytes t v =
    let inside : c.args.index < length bytes = omega (arith, c.if-index-len.false, c.len.ensures bytes t v) in
    (inside, byte-set c.args.heap.now c.put_at.new.heap v c.args.index c.args.byte inside c.put_at.ensures)
