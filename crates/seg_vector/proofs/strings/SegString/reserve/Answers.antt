-- The storage grows, and the bytes stay.
use Rattle.seg_vector.proofs.{text-enough, text-reserved}
use Rattle.seg_vector.proofs.strings.SegString.reserve.Goals as goal

pub returns : goal.returns
returns c =
    let A = c.args.heap.now in let B = c.reserve.new.heap in let r = c.reserve in record {
      capacity = λ bytes t v. text-reserved A B v c.args.n r.result r.ensures;
      noop = λ bytes t v. text-enough A B v c.args.n r.result r.ensures;
    }
