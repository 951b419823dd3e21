-- The object is begun, with the shape that its filling has, and then it is filled.
use Rattle.segment_manager.proofs.segment.Segment.construct_under.Goals as goal
use Rattle.seg_types.specs.Commands.{Construct}
use Rattle.segment_manager.proofs.{directory.AnyDirectory.refuses-read_only, segment.Segment.construct_under.Given.Over}
use Rattle.segment_manager.proofs.Common.{Constructs, Err, Key, Ok, ap, bare, exit-is, handle_answer, kind_of}
use Rattle.segment_manager.proofs.Common.{new_key_seen, refl, subst, sym, ◌∙◌}
use Rattle.segment_manager.proofs.objects.FilledCalls.{begun-for, construct-built, construct-not_begun, has-begun}
use Rattle.segment_manager.proofs.objects.FilledCalls.{made-segment, made-step}
use Rattle.segment_manager.proofs.segment.Segment.construct_under.Goals.{After-build, In_err-begun}

-- the effect of the call, under the key of the object's kind
done : (g : Over) (c : After-build g) → Constructs c.self.inside.heap c.build.new.heap
    (Construct (g.D.ConstructKey.key c.args.key.now (kind_of (bare (g.F.ObjectInit.content c.args.filling.now))))
    (g.F.ObjectInit.content c.args.filling.now)) handle_answer c.build.result
done g c =
    let content = g.F.ObjectInit.content c.args.filling.now in let b = c.in_ok-begun.begun in
    subst (λ (key : Key). Constructs c.self.inside.heap c.build.new.heap (Construct key content) handle_answer
    c.build.result) (c.key_for-key.ensures.key ∙ ap (g.D.ConstructKey.key c.args.key.now) c.shape-shape.ensures.kind)
    (construct-built c.self.invariant (new_key_seen c.key_for-key.result) content b.entry c.begin_object.new.heap
    b.handle b.at c.build.result (begun-for c.self.inside.heap c.begin_object.new.heap _ (Ok b) c.shape-shape.ensures
    c.in_ok-begun.ensures) c.build.ensures)

-- or where it is not begun
none : (g : Over) (c : In_err-begun g) → Constructs c.self.inside.heap c.begin_object.new.heap
    (Construct (g.D.ConstructKey.key c.args.key.now (kind_of (bare (g.F.ObjectInit.content c.args.filling.now))))
    (g.F.ObjectInit.content c.args.filling.now)) handle_answer (Err c.in_err-begun.field-0.0)
none g c =
    let content = g.F.ObjectInit.content c.args.filling.now in
    subst (λ (key : Key). Constructs c.self.inside.heap c.begin_object.new.heap (Construct key content) handle_answer
    (Err c.in_err-begun.field-0.0)) (c.key_for-key.ensures.key ∙ ap (g.D.ConstructKey.key c.args.key.now)
    c.shape-shape.ensures.kind) (construct-not_begun c.self.invariant (new_key_seen c.key_for-key.result) content
    c.in_err-begun.field-0.0 c.begin_object.new.heap (begun-for c.self.inside.heap c.begin_object.new.heap _
    (Err c.in_err-begun.field-0.0) c.shape-shape.ensures c.in_err-begun.ensures))

pub returns-then-is_read_only-clause-step : goal.returns-then-is_read_only-clause-step
returns-then-is_read_only-clause-step g c =
    refuses-read_only _ _ (sym c.is_read_only.ensures ∙ c.if-is_read_only.true) refl

pub invariant_of-self : goal.invariant_of-self
invariant_of-self g c = made-segment c.self.view_is (none g (goal.at.invariant_of-self g c).In_err-begun)
    (sym c.is_read_only.ensures ∙ c.if-is_read_only.false) c.self.invariant

pub returns-in_err-begun-clause-step : goal.returns-in_err-begun-clause-step
returns-in_err-begun-clause-step g c = rw (exit-is c.from_residual.result _ c.from_residual.ensures.1)
    (made-step c.self.view_is (none g (goal.at.returns-in_err-begun-clause-step g c).In_err-begun)
    (sym c.is_read_only.ensures ∙ c.if-is_read_only.false))

pub build-requires-clause-start : goal.build-requires-clause-start
build-requires-clause-start g c = has-begun c.self.inside.heap c.begin_object.new.heap
    (new_key_seen c.key_for-key.result) c.in_ok-begun.begun c.self.invariant c.shape-shape.ensures c.in_ok-begun.ensures

pub invariant_of-self-2 : goal.invariant_of-self-2
invariant_of-self-2 g c = made-segment c.self.view_is (done g (goal.at.invariant_of-self-2 g c).After-build)
    (sym c.is_read_only.ensures ∙ c.if-is_read_only.false) c.self.invariant

pub returns-clause-step : goal.returns-clause-step
returns-clause-step g c = made-step c.self.view_is (done g (goal.at.returns-clause-step g c).After-build)
    (sym c.is_read_only.ensures ∙ c.if-is_read_only.false)
