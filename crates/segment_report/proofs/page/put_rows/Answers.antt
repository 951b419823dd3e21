use Rattle.std.proofs.Common.{◌≡◌, ◌≤◌, length, refl, sym, ap, subst, ◌∙◌, rules}
use Rattle.segment_manager.specs.Directory.{Directory}
use Rattle.segment_manager.specs.objects.Instances.{SaysAt}
use Rattle.segment_manager.specs.State.{SegmentState, DenotesCurrent}
use Rattle.segment_report.specs.Page.{instance_row, object_row}
use Rattle.segment_report.proofs.page.ObjectRow.{row-next}
use Rattle.segment_report.proofs.page.Output.{IsTold, none_told, told-all, told-cut, told-more, tells-text}
use Rattle.segment_report.proofs.page.put_rows.Goals as goal

pub objects-init : goal.objects-init
objects-init g c =
    let s = c.args.segment.now in
    let old = g.W.Sink.history c.args.out.now in
    let same : c.into_iter-said-iterator.result ≡ record { segment = s; at = 0 } = search rules in
    record {
      can = tt;
      finite = tt;
      segment = ap (λ w. w.segment) same;
      told =
          subst (λ n. IsTold s.cut.bytes (λ (d : Directory). d.objects) (λ (d : Directory). object_row) old old n)
          (sym (ap (λ w. w.at) same))
          (none_told s.cut.bytes (λ (d : Directory). d.objects) (λ (d : Directory). object_row) old);
    }

pub returns-in_err-put_row : goal.returns-in_err-put_row
returns-in_err-put_row g c =
    let s = c.args.segment.now in
    let walk = c.objects.said-iterator in
    let said = c.in-Some.said in
    let at : SaysAt s (λ (d : Directory). d.objects) walk.at said =
    subst (λ (t : SegmentState). SaysAt t (λ (d : Directory). d.objects) walk.at said) c.objects.invariant.segment
    c.in-Some.ensures.steps.says in
    told-cut s (λ (d : Directory). d.objects) (λ (d : Directory). object_row) (g.W.Sink.history c.args.out.now)
    (g.W.Sink.history c.objects.out) (g.W.Sink.history c.put_row.new.out) walk.at c.objects.invariant.told
    (λ (d : Directory). instance_row said) (row-next s walk.at said at) _ c.from_residual.result
    c.from_residual.ensures.0
    (tells-text s (g.W.Sink.history c.objects.out) (g.W.Sink.history c.put_row.new.out) _ (instance_row said)
    (λ (d : Directory). instance_row said) c.in_err-put_row.ensures (λ d k. refl))

pub objects-preserved : goal.objects-preserved
objects-preserved g c =
    let s = c.args.segment.now in
    let old = g.W.Sink.history c.args.out.now in
    let new = g.W.Sink.history c.put_row.new.out in
    let walk = c.objects.said-iterator in
    let said = c.in-Some.said in
    let steps = c.in-Some.ensures.steps in
    let at : SaysAt s (λ (d : Directory). d.objects) walk.at said =
    subst (λ (t : SegmentState). SaysAt t (λ (d : Directory). d.objects) walk.at said) c.objects.invariant.segment
    steps.says in
    record {
      can = tt;
      finite = tt;
      segment = steps.segment ∙ c.objects.invariant.segment;
      told =
          subst (λ n. IsTold s.cut.bytes (λ (d : Directory). d.objects) (λ (d : Directory). object_row) old new n)
          (sym steps.place)
          (told-more s (λ (d : Directory). d.objects) (λ (d : Directory). object_row) old
          (g.W.Sink.history c.objects.out) new walk.at c.objects.invariant.told (λ (d : Directory). instance_row said)
          (row-next s walk.at said at) _
          (tells-text s (g.W.Sink.history c.objects.out) new _ (instance_row said) (λ (d : Directory).
          instance_row said)
          c.in_ok-put_row.ensures (λ d k. refl)));
    }

pub returns : goal.returns
returns g c =
    let s = c.args.segment.now in
    let walk = c.objects.said-iterator in
    let none : (d : Directory) → DenotesCurrent s.cut.bytes d → length d.objects ≤ walk.at =
    subst (λ (t : SegmentState). (d : Directory) → DenotesCurrent t.cut.bytes d → length d.objects ≤ walk.at)
    c.objects.invariant.segment c.in-None.ensures.steps.says in
    told-all s (λ (d : Directory). d.objects) (λ (d : Directory). object_row) (g.W.Sink.history c.args.out.now)
    (g.W.Sink.history c.objects.out) walk.at tt c.objects.invariant.told none
