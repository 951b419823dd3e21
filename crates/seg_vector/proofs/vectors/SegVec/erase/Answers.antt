-- The bytes of the others are left.
use Rattle.seg_vector.proofs.{◌<◌, arith, length, erased-now}
use Rattle.seg_vector.proofs.vectors.SegVec.erase.Goals as goal

pub returns : goal.returns
returns g c xs t v =
    let inside : c.args.index < length xs = omega (arith, c.if-index-len.false, c.len.ensures xs t v) in (
      inside,
      erased-now c.args.heap.now c.erase_element.new.heap c.SIZE.ensures v c.args.index g.met.T.Plain.spells
          inside c.erase_element.ensures,
    )
