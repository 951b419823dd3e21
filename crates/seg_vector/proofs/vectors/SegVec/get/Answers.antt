-- The bytes of an element spell its value, and no other.
use Rattle.seg_vector.proofs.{sym, ap, ◌∙◌, ◌<◌, arith, length, Some, all-at, element-spells, has-element}
use Rattle.seg_vector.proofs.vectors.SegVec.get.Goals as goal

pub read-requires : goal.read-requires
read-requires g c =
    let inside : c.args.index < length c.requires.0 =
    omega (arith, c.if-index-len.false, c.len.ensures c.requires.0 c.requires.1.0 c.requires.1.1) in
    let some = has-element c.requires.0 c.args.index inside in
    let is = element-spells c.args.heap.now c.args.heap.now c.SIZE.ensures c.requires.1.1 c.args.index
    c.element.result.now g.met.T.Plain.spells some.1 c.element.ensures in
    ap length is ∙ g.met.T.Plain.spells some.0
    (all-at g.T.Plain.is_value c.requires.0 c.args.index c.requires.1.1.values some.1)

pub unreachable-requires : goal.unreachable-requires
unreachable-requires g c =
    let inside : c.args.index < length c.requires.0 =
    omega (arith, c.if-index-len.false, c.len.ensures c.requires.0 c.requires.1.0 c.requires.1.1) in
    let some = has-element c.requires.0 c.args.index inside in
    let is = element-spells c.args.heap.now c.args.heap.now c.SIZE.ensures c.requires.1.1 c.args.index
    c.element.result.now g.met.T.Plain.spells some.1 c.element.ensures in
    c.in-None.ensures some.0 (all-at g.T.Plain.is_value c.requires.0 c.args.index c.requires.1.1.values some.1) (sym is)

pub returns : goal.returns
returns g c xs t v =
    let inside : c.args.index < length xs = omega (arith, c.if-index-len.false, c.len.ensures xs t v) in
    let some = has-element xs c.args.index inside in
    let is = element-spells c.args.heap.now c.args.heap.now c.SIZE.ensures v c.args.index c.element.result.now
    g.met.T.Plain.spells some.1 c.element.ensures in
    some.1 ∙ ap (λ x. Some x) (g.met.T.Plain.differs some.0 c.in-Some.value (all-at g.T.Plain.is_value xs c.args.index
    v.values some.1) c.in-Some.ensures.0 (sym is ∙ sym c.in-Some.ensures.1))
