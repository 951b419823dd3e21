use Rattle.std.proofs.Common.{◌≡◌, ◌∙◌, Some, None, slice_get, sym, ap, subst, rules}
use Rattle.segment_manager.specs.Directory.{Directory}
use Rattle.segment_manager.specs.indexes.Iterating.{names_of}
use Rattle.segment_manager.specs.State.{SegmentState, DenotesCurrent}
use Rattle.segment_report.proofs.page.Names.{ListsFirstNames, listed-all, listed-cut, listed-more, none_listed}
use Rattle.segment_report.proofs.names.put_names.Goals as goal

pub names-init : goal.names-init
names-init g c =
    let s = c.args.segment.now in
    let old = g.W.Sink.history c.args.out.now in
    let same : c.into_iter-name-iterator.result ≡ record { segment = s; at = 0 } = search rules in
    record {
      can = tt;
      finite = tt;
      segment = ap (λ w. w.segment) same;
      told =
          subst (λ n. ListsFirstNames s.cut.bytes old old c.args.prefix.now c.args.most c.args.most n)
          (sym (ap (λ w. w.at) same))
          (none_listed s.cut.bytes old c.args.prefix.now c.args.most);
    }

pub returns-in_err-left : goal.returns-in_err-left
returns-in_err-left g c =
    let s = c.args.segment.now in
    let walk = c.names.name-iterator in
    let next : (d : Directory) → DenotesCurrent s.cut.bytes d
    → Some c.in-Some.name.now ≡ slice_get (names_of d) walk.at =
    subst (λ (t : SegmentState). (d : Directory) → DenotesCurrent t.cut.bytes d
    → Some c.in-Some.name.now ≡ slice_get (names_of d) walk.at) c.names.invariant.segment
    c.in-Some.ensures.steps.says.answers in
    listed-cut s (g.W.Sink.history c.args.out.now) (g.W.Sink.history c.names.out)
    (g.W.Sink.history c.put_listed.new.out)
    c.args.prefix.now c.args.most c.names.left walk.at c.names.invariant.told c.in-Some.name.now next _
    c.from_residual.result
    c.from_residual.ensures.0 c.in_err-left.ensures.output

pub names-preserved : goal.names-preserved
names-preserved g c =
    let s = c.args.segment.now in
    let old = g.W.Sink.history c.args.out.now in
    let new = g.W.Sink.history c.put_listed.new.out in
    let walk = c.names.name-iterator in
    let steps = c.in-Some.ensures.steps in
    let next : (d : Directory) → DenotesCurrent s.cut.bytes d
    → Some c.in-Some.name.now ≡ slice_get (names_of d) walk.at =
    subst (λ (t : SegmentState). (d : Directory) → DenotesCurrent t.cut.bytes d
    → Some c.in-Some.name.now ≡ slice_get (names_of d) walk.at) c.names.invariant.segment
    steps.says.answers in
    record {
      can = tt;
      finite = tt;
      segment = steps.segment ∙ c.names.invariant.segment;
      told =
          subst (λ n. ListsFirstNames s.cut.bytes old new c.args.prefix.now c.args.most c.in_ok-left.left n)
          (sym steps.place)
          (listed-more s old (g.W.Sink.history c.names.out) new c.args.prefix.now c.args.most c.names.left walk.at
          c.names.invariant.told
          c.in-Some.name.now next _ c.in_ok-left.left c.in_ok-left.ensures.remainder c.in_ok-left.ensures.output);
    }

pub returns : goal.returns
returns g c =
    let s = c.args.segment.now in
    let walk = c.names.name-iterator in
    let none : (d : Directory) → DenotesCurrent s.cut.bytes d → None ≡ slice_get (names_of d) walk.at =
    subst (λ (t : SegmentState). (d : Directory) → DenotesCurrent t.cut.bytes d
    → None ≡ slice_get (names_of d) walk.at) c.names.invariant.segment
    c.in-None.ensures.steps.says.answers in
    listed-all s (g.W.Sink.history c.args.out.now) (g.W.Sink.history c.names.out) (g.W.Sink.history c.names.out)
    c.args.prefix.now c.args.most c.names.left walk.at
    c.names.invariant.told tt none
