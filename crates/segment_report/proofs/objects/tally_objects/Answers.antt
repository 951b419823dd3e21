use Rattle.std.proofs.Common.{◌≡◌, ◌≤◌, length, sym, ap, subst, ◌∙◌, rules}
use Rattle.segment_manager.specs.Directory.{Directory}
use Rattle.segment_manager.specs.objects.Instances.{SaysAt}
use Rattle.segment_manager.specs.State.{IsSegment, SegmentState, DenotesCurrent}
use Rattle.segment_report.proofs.figures.Objects.{AreCounted, no_objects, objects-all, objects-more, objects-room}
use Rattle.segment_report.proofs.objects.tally_objects.Goals as goal

pub objects-init : goal.objects-init
objects-init c =
    let s = c.args.segment.now in
    let same : c.into_iter-said-iterator.result ≡ record { segment = s; at = 0 } = search rules in
    record {
      can = tt;
      finite = tt;
      segment = ap (λ w. w.segment) same;
      counted =
          subst (λ n. AreCounted s.cut.bytes c.new-tally.result n) (sym (ap (λ w. w.at) same))
          (subst (λ t. AreCounted s.cut.bytes t 0) (sym c.new-tally.ensures) (no_objects s.cut.bytes));
    }

pub add-requires : goal.add-requires
add-requires c =
    let s = c.args.segment.now in
    let walk = c.objects.said-iterator in
    let at : SaysAt s (λ (d : Directory). d.objects) walk.at c.in-Some.said =
    subst (λ (t : SegmentState). SaysAt t (λ (d : Directory). d.objects) walk.at c.in-Some.said)
    c.objects.invariant.segment
    c.in-Some.ensures.steps.says in
    objects-room s c.objects.tally walk.at c.objects.invariant.counted c.in-Some.said at
    (subst IsSegment c.as_bytes.ensures.bytes c.as_bytes.ensures.denotation)

pub objects-preserved : goal.objects-preserved
objects-preserved c =
    let s = c.args.segment.now in
    let walk = c.objects.said-iterator in
    let steps = c.in-Some.ensures.steps in
    let at : SaysAt s (λ (d : Directory). d.objects) walk.at c.in-Some.said =
    subst (λ (t : SegmentState). SaysAt t (λ (d : Directory). d.objects) walk.at c.in-Some.said)
    c.objects.invariant.segment
    steps.says in
    record {
      can = tt;
      finite = tt;
      segment = steps.segment ∙ c.objects.invariant.segment;
      counted =
          subst (λ n. AreCounted s.cut.bytes c.add.new.self n) (sym steps.place)
          (objects-more s c.objects.tally walk.at c.objects.invariant.counted c.in-Some.said at c.add.new.self
          c.add.ensures);
    }

pub returns : goal.returns
returns c =
    let s = c.args.segment.now in
    let walk = c.objects.said-iterator in
    let none : (d : Directory) → DenotesCurrent s.cut.bytes d → length d.objects ≤ walk.at =
    subst (λ (t : SegmentState). (d : Directory) → DenotesCurrent t.cut.bytes d → length d.objects ≤ walk.at)
    c.objects.invariant.segment c.in-None.ensures.steps.says in
    record { answers = objects-all s.cut.bytes c.objects.tally walk.at c.objects.invariant.counted none }
