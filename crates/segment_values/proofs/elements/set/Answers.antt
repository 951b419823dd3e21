use Rattle.std.proofs.Common.{◌≡◌, rules, sym, ap, ◌∙◌, pos}
use Rattle.seg_types.specs.declared.kinds.Kind.TheVariants.{Scalar, String, Strings, Vector}
use Rattle.seg_types.specs.Commands.{Quoted, Set, literal_of}
use Rattle.seg_types.specs.{declared.kinds.ScalarKind.TheVariants.U8}
use Rattle.seg_types.specs.{declared.values.ScalarValue.TheVariants.U8 as Byte, Keys.key_seen}
use Rattle.segment_manager.specs.{Calls.elements_of, objects.BoundObjects.key_of}
use Rattle.segment_manager.specs.State.{TakesStepOfKind, done_answer}
use Rattle.segment_manager.proofs.CommandLaws.{set-map, set-no_text, set-unchangeable}
use Rattle.segment_manager.proofs.CommandLaws.{to-change}
use Rattle.segment_manager.proofs.Laws.{located-steps, of-change}
use Rattle.segment_values.proofs.{Exits.exit-is}
use Rattle.segment_values.proofs.{elements.Setting.set-done, elements.Setting.set-refused}
use Rattle.segment_values.proofs.elements.set.Goals as goal

pub returns-in_err-object-clause-step : goal.returns-in_err-object-clause-step
returns-in_err-object-clause-step g c =
    rw (exit-is c.from_residual.ensures.1) (set-unchangeable c.in_err-object.ensures _ _)

pub returns-in_err-scalar-in-Scalar-clause-step : goal.returns-in_err-scalar-in-Scalar-clause-step
returns-in_err-scalar-in-Scalar-clause-step g c = rw (exit-is c.from_residual-in_err-scalar-in-Scalar.ensures.1)
    (set-refused c.in_ok-object.ensures (ap elements_of c.in-Scalar.is) _ _ c.in_err-scalar-in-Scalar.ensures)

pub returns-in_ok-scalar-in-Scalar-clause-step : goal.returns-in_ok-scalar-in-Scalar-clause-step
returns-in_ok-scalar-in-Scalar-clause-step g c =
    set-done c.in_ok-object.ensures (ap elements_of c.in-Scalar.is) _ _ c.in_ok-scalar-in-Scalar.scalar
    c.in_ok-scalar-in-Scalar.ensures (c.in-Scalar.is ∙ ap Scalar (sym c.in_ok-scalar-in-Scalar.ensures.0))
    c.set_array_element.ensures.step

pub returns-in_err-scalar-in-Vector-clause-step : goal.returns-in_err-scalar-in-Vector-clause-step
returns-in_err-scalar-in-Vector-clause-step g c = rw (exit-is c.from_residual-in_err-scalar-in-Vector.ensures.1)
    (set-refused c.in_ok-object.ensures (ap elements_of c.in-Vector.is) _ _ c.in_err-scalar-in-Vector.ensures)

pub returns-in_ok-scalar-in-Vector-clause-step : goal.returns-in_ok-scalar-in-Vector-clause-step
returns-in_ok-scalar-in-Vector-clause-step g c =
    set-done c.in_ok-object.ensures (ap elements_of c.in-Vector.is) _ _ c.in_ok-scalar-in-Vector.scalar
    c.in_ok-scalar-in-Vector.ensures (c.in-Vector.is ∙ ap Vector (sym c.in_ok-scalar-in-Vector.ensures.0))
    c.set_vector_element.ensures.step

pub returns-in-Some-clause-step : goal.returns-in-Some-clause-step
returns-in-Some-clause-step g c =
    let e : c.set-in-Some.new.self.segment.now ≡ c.segment-in-Some-1.given.0 = search rules in
    rw c.in-Some.ensures
    (located-steps c.args.segment.now (key_seen c.args.key.now) c.in_ok-object.object c.in_ok-object.ensures.located
    _ _ (Set (key_seen c.args.key.now) c.args.index _) _ c.in-Strings.is
    (of-change (λ o u v. TakesStepOfKind u v (key_of o) Strings (Set (key_of o) c.args.index
    (Quoted c.in-Some.text.now)) (done_answer c.set-in-Some.result)) c.at-in-Some.ensures.object
    c.at-in-Some.ensures.segment e c.set-in-Some.ensures.step))

pub returns-in-None-clause-step : goal.returns-in-None-clause-step
returns-in-None-clause-step g c =
    set-no_text (to-change c.in_ok-object.ensures c.in-Strings.is) c.in-None.ensures _

pub returns-in-Map-clause-step : goal.returns-in-Map-clause-step
returns-in-Map-clause-step g c = set-map _ _ (to-change c.in_ok-object.ensures c.in-Map.is)

pub returns-in_err-byte-in-String-clause-step : goal.returns-in_err-byte-in-String-clause-step
returns-in_err-byte-in-String-clause-step g c = rw (exit-is c.from_residual-in_err-byte-in-String.ensures.1)
    (set-refused c.in_ok-object.ensures (ap elements_of c.in-String.is) _ _ c.in_err-byte-in-String.ensures)

pub returns-in-U8-clause-step : goal.returns-in-U8-clause-step
returns-in-U8-clause-step g c =
    let e : c.set.new.self.segment.now ≡ c.segment-1.given.0 = search rules in
    set-done c.in_ok-object.ensures (ap elements_of c.in-String.is) _ _ (Byte c.in-U8.byte)
    (rw c.in-U8.is at c.in_ok-byte-in-String.ensures) c.in-String.is
    (of-change (λ o u v. TakesStepOfKind u v (key_of o) String (Set (key_of o) c.args.index (literal_of U8
    (pos c.in-U8.byte))) (done_answer c.set.result)) c.at.ensures.object c.at.ensures.segment e c.set.ensures.step)
