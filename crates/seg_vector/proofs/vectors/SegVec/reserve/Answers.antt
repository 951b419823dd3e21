-- The storage grows, and the values stay.
use Rattle.seg_vector.proofs.{reserved-enough, reserved-of}
use Rattle.seg_vector.proofs.vectors.SegVec.reserve.Goals as goal

pub returns : goal.returns
returns g c =
    let A = c.args.heap.now in let B = c.reserve.new.heap in let r = c.reserve in record {
      capacity = λ xs t v. reserved-of A B c.SIZE.ensures v c.args.n r.result r.ensures;
      noop = λ xs t v. reserved-enough A B c.SIZE.ensures v c.args.n r.result r.ensures;
    }
