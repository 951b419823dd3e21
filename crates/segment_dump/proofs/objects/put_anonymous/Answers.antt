use Rattle.segment_dump.proofs.objects.put_anonymous.Goals as goal
use Rattle.segment_dump.proofs.Common.{◌≡◌, ◌≤◌, length, sym, ap, subst, ◌∙◌, Directory, SaysAt, SegmentState}
use Rattle.segment_dump.proofs.Common.{DenotesCurrent, WritesOf, where_anonymous, parts_until}
use Rattle.std.proofs.Common.{rules}
use Rattle.segment_dump.proofs.{building.Members.all-objects, building.Members.said-of, dumping.Output.of-same}
use Rattle.segment_dump.proofs.{dumping.Output.of-start, texts.Parts.well}
use Rattle.segment_dump.proofs.dumping.Sections.{anonymous-filtered, object_at_place, slots-all, slots-cut}
use Rattle.segment_dump.proofs.dumping.Sections.{slots-more}

pub objects-init : goal.objects-init
objects-init g c =
    let s = c.args.segment.now in
    let old = g.W.Sink.history c.args.out.now in
    let walk = c.into_iter-said-iterator.result in
    let part = object_at_place (where_anonymous (g.T.ObjectWriter.text c.args.telling.now)) (λ (d : Directory).
    d.objects) in
    let same : walk ≡ record { segment = s; at = 0 } = search rules in
    record {
      can = tt;
      finite = tt;
      segment = ap (λ w. w.segment) same;
      told = subst (λ n. WritesOf s old old well (λ d. parts_until (part d) n)) (sym (ap (λ w. w.at) same))
          (of-start part);
    }

pub put_if_anonymous-requires-clause-text : goal.put_if_anonymous-requires-clause-text
put_if_anonymous-requires-clause-text g c =
    let s = c.args.segment.now in
    let walk = c.objects.said-iterator in
    let at : SaysAt s (λ (d : Directory). d.objects) walk.at c.in-Some.said =
    subst (λ (t : SegmentState). SaysAt t (λ (d : Directory). d.objects) walk.at c.in-Some.said)
    c.objects.invariant.segment c.in-Some.ensures.steps.says in
    said-of s (λ (d : Directory). d.objects) walk.at c.in-Some.said at (λ d st. all-objects s.cut.bytes d st)

pub returns-in_err-put_if_anonymous : goal.returns-in_err-put_if_anonymous
returns-in_err-put_if_anonymous g c =
    let s = c.args.segment.now in
    let walk = c.objects.said-iterator in
    let at : SaysAt s (λ (d : Directory). d.objects) walk.at c.in-Some.said =
    subst (λ (t : SegmentState). SaysAt t (λ (d : Directory). d.objects) walk.at c.in-Some.said)
    c.objects.invariant.segment c.in-Some.ensures.steps.says in
    of-same (slots-cut at (λ d st. all-objects s.cut.bytes d st) c.objects.invariant.told
    c.in_err-put_if_anonymous.ensures c.from_residual.ensures.0)
    (λ d st. anonymous-filtered (g.T.ObjectWriter.text c.args.telling.now) d.objects)

pub objects-preserved : goal.objects-preserved
objects-preserved g c =
    let s = c.args.segment.now in
    let walk = c.objects.said-iterator in
    let old = g.W.Sink.history c.args.out.now in
    let new = g.W.Sink.history c.put_if_anonymous.new.out in
    let steps = c.in-Some.ensures.steps in
    let part = object_at_place (where_anonymous (g.T.ObjectWriter.text c.args.telling.now)) (λ (d : Directory).
    d.objects) in
    let at : SaysAt s (λ (d : Directory). d.objects) walk.at c.in-Some.said =
    subst (λ (t : SegmentState). SaysAt t (λ (d : Directory). d.objects) walk.at c.in-Some.said)
    c.objects.invariant.segment steps.says in
    record {
      can = tt;
      finite = tt;
      segment = steps.segment ∙ c.objects.invariant.segment;
      told =
          subst (λ n. WritesOf s old new well (λ d. parts_until (part d) n)) (sym steps.place)
          (slots-more at (λ d st. all-objects s.cut.bytes d st) c.objects.invariant.told
          c.in_ok-put_if_anonymous.ensures);
    }

pub returns : goal.returns
returns g c =
    let s = c.args.segment.now in
    let walk = c.objects.said-iterator in
    let none : (d : Directory) → DenotesCurrent s.cut.bytes d → length d.objects ≤ walk.at =
    subst (λ (t : SegmentState). (d : Directory) → DenotesCurrent t.cut.bytes d
    → length d.objects ≤ walk.at) c.objects.invariant.segment c.in-None.ensures.steps.says in
    of-same (slots-all s (λ (d : Directory).
    d.objects) (where_anonymous (g.T.ObjectWriter.text c.args.telling.now)) walk.at
    c.objects.invariant.told none) (λ d st. anonymous-filtered (g.T.ObjectWriter.text c.args.telling.now) d.objects)
