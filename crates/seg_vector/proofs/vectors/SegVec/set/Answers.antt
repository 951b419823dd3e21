-- The bytes encode the value.
use Rattle.seg_vector.proofs.{◌<◌, arith, length, refl, set-now}
use Rattle.seg_vector.proofs.vectors.SegVec.set.Goals as goal

pub returns : goal.returns
returns g c xs t v =
    let inside : c.args.index < length xs = omega (arith, c.if-index-len.false, c.len.ensures xs t v) in (
      inside,
      set-now c.args.heap.now c.put_value.new.heap refl v c.args.index c.args.value g.met.T.Plain.spells
          inside c.put_value.ensures.value c.put_value.ensures.effect,
    )
