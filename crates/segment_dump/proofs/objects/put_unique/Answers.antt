use Rattle.segment_dump.proofs.objects.put_unique.Goals as goal
use Rattle.segment_dump.proofs.Common.{arith, unique_objects}
use Rattle.segment_dump.proofs.{dumping.ObjectParts.unique-is, building.Members.all-unique, building.Members.said-of}
use Rattle.segment_dump.proofs.{dumping.Output.of-start}
use Rattle.segment_dump.proofs.dumping.Sections.{object_at_place, slots-all, slots-cut, slots-more}

pub unique_instance-requires : goal.unique_instance-requires
unique_instance-requires g c = record {
  below = λ d k. omega (
    arith,
    c.kinds-test.true,
    unique-is c.args.segment.now.mode d c.num_unique-index-end.result (c.num_unique-index-end.ensures.answers d k),
  );
}

pub tell-requires-clause-text : goal.tell-requires-clause-text
tell-requires-clause-text g c =
    let s = c.args.segment.now in
    said-of s unique_objects c.kinds.index c.unique_instance.result c.unique_instance.ensures (λ d st.
    all-unique s.cut.bytes d st)

pub kinds-init : goal.kinds-init
kinds-init g c = of-start (object_at_place (g.T.ObjectWriter.text c.args.telling.now) unique_objects)

pub returns-in_err-tell : goal.returns-in_err-tell
returns-in_err-tell g c =
    slots-cut c.unique_instance.ensures (λ d st. all-unique c.args.segment.now.cut.bytes d st) c.kinds.invariant
    c.in_err-tell.ensures c.from_residual.ensures.0

pub kinds-preserved : goal.kinds-preserved
kinds-preserved g c = slots-more c.unique_instance.ensures (λ d st. all-unique c.args.segment.now.cut.bytes d st)
    c.kinds.invariant c.in_ok-tell.ensures

pub returns : goal.returns
returns g c =
    let n = c.num_unique-index-end in
    slots-all c.args.segment.now unique_objects (g.T.ObjectWriter.text c.args.telling.now) c.kinds.index
    c.kinds.invariant
    (λ d k. omega (arith, c.kinds-test.false, unique-is c.args.segment.now.mode d n.result (n.ensures.answers d k)))
