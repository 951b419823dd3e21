-- The block holds the text.
use Rattle.seg_vector.proofs.{◌+◌, arith, length, allocated-room, placed-empty, placed-some}
use Rattle.seg_vector.proofs.owning.place_text.Goals as goal

pub returns-then-len-eq0 : goal.returns-then-len-eq0
returns-then-len-eq0 c = placed-empty c.args.heap.now c.args.text.now c.requires (omega (arith, c.if-len-eq0.true))

pub write-requires : goal.write-requires
write-requires c = allocated-room _ _ _ _ _ _ (0 + length c.args.text.now) c.in_ok-block.ensures (omega arith)

pub returns : goal.returns
returns c = placed-some c.args.text.now (omega (arith, c.if-len-eq0.false)) c.in_ok-block.ensures
    c.write.ensures.changes c.write.ensures.content
