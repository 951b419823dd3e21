use Rattle.segment_dump.proofs.objects.put_named.Goals as goal
use Rattle.segment_dump.proofs.Common.{arith, named_objects}
use Rattle.segment_dump.proofs.{dumping.ObjectParts.named-is, building.Members.all-named, building.Members.said-of}
use Rattle.segment_dump.proofs.{dumping.Output.of-start}
use Rattle.segment_dump.proofs.dumping.Sections.{object_at_place, slots-all, slots-cut, slots-more}

pub named_instance-requires : goal.named_instance-requires
named_instance-requires g c = record {
  below = λ d k. omega (
    arith,
    c.names-test.true,
    named-is c.args.segment.now.mode d c.num_named-index-end.result (c.num_named-index-end.ensures.answers d k),
  );
}

pub tell-requires-clause-text : goal.tell-requires-clause-text
tell-requires-clause-text g c =
    let s = c.args.segment.now in
    said-of s named_objects c.names.index c.named_instance.result c.named_instance.ensures (λ d st.
    all-named s.cut.bytes d st)

pub names-init : goal.names-init
names-init g c = of-start (object_at_place (g.T.ObjectWriter.text c.args.telling.now) named_objects)

pub returns-in_err-tell : goal.returns-in_err-tell
returns-in_err-tell g c =
    slots-cut c.named_instance.ensures (λ d st. all-named c.args.segment.now.cut.bytes d st) c.names.invariant
    c.in_err-tell.ensures c.from_residual.ensures.0

pub names-preserved : goal.names-preserved
names-preserved g c = slots-more c.named_instance.ensures (λ d st. all-named c.args.segment.now.cut.bytes d st)
    c.names.invariant c.in_ok-tell.ensures

pub returns : goal.returns
returns g c =
    let n = c.num_named-index-end in
    slots-all c.args.segment.now named_objects (g.T.ObjectWriter.text c.args.telling.now) c.names.index
    c.names.invariant
    (λ d k. omega (arith, c.names-test.false, named-is c.args.segment.now.mode d n.result (n.ensures.answers d k)))
