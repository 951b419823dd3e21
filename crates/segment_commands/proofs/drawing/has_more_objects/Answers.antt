use Rattle.std.proofs.Common.{◌≡◌, ◌≤◌, length, sym, ap, subst, ◌∙◌, arith, rules}
use Rattle.segment_manager.specs.Directory.{Directory}
use Rattle.segment_manager.specs.objects.Instances.{SaysAt}
use Rattle.segment_manager.specs.State.{SegmentState, DenotesCurrent}
use Rattle.segment_commands.proofs.drawing.Counts.{more, no_more}
use Rattle.segment_commands.proofs.drawing.has_more_objects.Goals as goal

pub objects-init : goal.objects-init
objects-init c =
    let s = c.args.segment.now in
    let same : c.into_iter-said-iterator.result ≡ record { segment = s; at = 0 } = search rules in
    record {
      can = tt;
      finite = tt;
      segment = ap (λ w. w.segment) same;
      counted = sym (ap (λ w. w.at) same);
      within = omega arith;
    }

pub objects-preserved : goal.objects-preserved
objects-preserved c =
    let steps = c.in-Some.ensures.steps in
    let place = steps.place in
    let counted = c.objects.invariant.counted in
    record {
      can = tt;
      finite = tt;
      segment = steps.segment ∙ c.objects.invariant.segment;
      counted = omega (arith, place, counted);
      within = omega (arith, c.objects.invariant.within, c.if-count-most.false);
    }

pub returns-then-count-most : goal.returns-then-count-most
returns-then-count-most c = λ d stands.
    let s = c.args.segment.now in
    let walk = c.objects.said-iterator in
    let at : SaysAt s (λ (d : Directory). d.objects) walk.at c.in-Some.said =
    subst (λ (t : SegmentState). SaysAt t (λ (d : Directory). d.objects) walk.at c.in-Some.said)
    c.objects.invariant.segment c.in-Some.ensures.steps.says in
    more s walk.at c.args.most c.in-Some.said at (sym c.objects.invariant.counted ∙ c.if-count-most.true) d stands

pub returns : goal.returns
returns c = λ d stands.
    let s = c.args.segment.now in
    let walk = c.objects.said-iterator in
    let none : (d : Directory) → DenotesCurrent s.cut.bytes d → length d.objects ≤ walk.at =
    subst (λ (t : SegmentState). (d : Directory) → DenotesCurrent t.cut.bytes d → length d.objects ≤ walk.at)
    c.objects.invariant.segment c.in-None.ensures.steps.says in
    let counted = c.objects.invariant.counted in
    no_more s walk.at c.args.most none (omega (arith, counted, c.objects.invariant.within)) d stands
