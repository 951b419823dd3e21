use Rattle.std.proofs.Common.{◌≡◌, map, rules, subst}
use Rattle.seg_types.specs.declared.kinds.Kind.TheVariants.{Vector}
use Rattle.seg_types.specs.Commands.{Assign, literal_of}
use Rattle.segment_manager.specs.objects.BoundObjects.{key_of}
use Rattle.segment_manager.specs.State.{TakesStepOfKind, done_answer}
use Rattle.segment_manager.proofs.Laws.{of-change}
use Rattle.segment_scripts.proofs.changing.Elements.{assign-no_values, assign-read}
use Rattle.segment_values.proofs.Exits.{exit-is}
use Rattle.segment_values.proofs.Located.{bound-to-change}
use Rattle.segment_scripts.proofs.changing.assign_buffer.Goals as goal

pub returns-in_err-copy_literals-clause-step : goal.returns-in_err-copy_literals-clause-step
returns-in_err-copy_literals-clause-step g c = rw (exit-is c.from_residual.ensures.1)
    (assign-no_values (bound-to-change c.requires.object c.requires.writing) _ c.in_err-copy_literals.ensures)

pub returns-clause-step : goal.returns-clause-step
returns-clause-step g c =
    let k = g.T.Scalar.kind in
    let s = c.in_ok-copy_literals.ensures in
    let r = done_answer c.assign.result in
    let e : c.assign.new.self.segment.now ≡ c.segment-1.given.0 = search rules in
    assign-read (bound-to-change c.requires.object c.requires.writing) _
    (map g.T.Scalar.whole c.copy_literals.new.buffer) s.0 s.1
    (subst (λ buffer. TakesStepOfKind c.args.segment.now c.segment-1.given.0 (key_of c.args.object) (Vector k)
    (Assign (key_of c.args.object) (map (literal_of k) (map g.T.Scalar.whole buffer))) r) c.as_slice.ensures
    (of-change (λ o u v. TakesStepOfKind u v (key_of o) (Vector k) (Assign (key_of o) (map (literal_of k)
    (map g.T.Scalar.whole c.as_slice.result.now))) r) c.at.ensures.object c.at.ensures.segment e
    c.assign.ensures.step.step))
