-- The last value is read, and then left out.
use Rattle.seg_vector.proofs.{◌≡◌, subst, ◌-◌, arith, length, take, slice_get, Some, ReplacesVector, cut-now}
use Rattle.seg_vector.proofs.vectors.SegVec.pop.Goals as goal

pub returns : goal.returns
returns g c xs t v =
    let is : c.in_ok-last.last ≡ length xs - 1 = grind (arith, c.len.ensures xs t v) in (
      subst (λ n. slice_get xs n ≡ Some c.in_ok-value.value) is (c.in_ok-value.ensures xs t v),
      subst (λ n. ReplacesVector g.T.Plain.SIZE g.T.Plain.is_value g.T.Plain.spelling c.args.heap.now
          c.truncate.new.heap c.args.self.place t (take n xs) t) is
          (cut-now c.args.heap.now c.truncate.new.heap c.SIZE.ensures v c.in_ok-last.last g.met.T.Plain.spells
          (omega (arith, is)) c.truncate.ensures),
    )
