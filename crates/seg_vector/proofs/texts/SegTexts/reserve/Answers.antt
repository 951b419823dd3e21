-- Nothing is allocated, or an array, which is then installed.
use Rattle.seg_vector.proofs.{refl, ◌<◌, arith, live_of, err_from_is_err_and, asked-alone, not-grown, ready-of}
use Rattle.seg_vector.proofs.{reserved, reserved-same, too-many-texts}
use Rattle.seg_vector.proofs.texts.SegTexts.reserve.Goals as goal

pub returns-then-n-capacity-clause-capacity : goal.returns-then-n-capacity-clause-capacity
returns-then-n-capacity-clause-capacity c = λ ps t s.
    reserved-same c.args.heap.now c.args.n s (omega (arith, c.if-n-capacity.true, c.capacity.ensures ps t s))

pub returns-then-n-gt-MAX_SEGMENT_LEN-clause-capacity : goal.returns-then-n-gt-MAX_SEGMENT_LEN-clause-capacity
returns-then-n-gt-MAX_SEGMENT_LEN-clause-capacity c = λ ps t s.
    record {
      refusal = refl;
      none = too-many-texts c.args.heap.now c.args.n s c.if-n-gt-MAX_SEGMENT_LEN.true;
      same = refl;
    }

pub install_array-requires : goal.install_array-requires
install_array-requires c =
    let t = c.requires.1.0 in let a = c.in_ok-array.ensures c.requires.0 t c.requires.1.1 in
    ready-of c.args.n c.requires.1.1
    (omega (arith, c.if-n-capacity.false, c.capacity.ensures c.requires.0 t c.requires.1.1)) a (asked-alone a) (λ e.
    refl)

pub returns-in_err-array-clause-capacity : goal.returns-in_err-array-clause-capacity
returns-in_err-array-clause-capacity c = λ ps t s.
    let e = c.in_err-array.ensures ps t s in
    let p = err_from_is_err_and c.from_residual.result c.from_residual.ensures.1 in
    rw (p.1, p.2) (record {
      refusal = e.refusal;
      none = not-grown (live_of c.args.heap.now.bytes) c.args.n t
          (omega (arith, c.if-n-capacity.false, c.capacity.ensures ps t s)) e.none;
      same = e.same;
    })

pub returns-clause-capacity : goal.returns-clause-capacity
returns-clause-capacity c = λ ps t s.
    let more : t.capacity < c.args.n = omega (arith, c.if-n-capacity.false, c.capacity.ensures ps t s) in
    let a = c.in_ok-array.ensures ps t s in
    reserved s more (c.install_array.ensures (ready-of c.args.n s more a (asked-alone a) (λ e. refl)))
