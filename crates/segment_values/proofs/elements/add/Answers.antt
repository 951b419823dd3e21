use Rattle.std.proofs.Common.{◌≡◌, rules}
use Rattle.seg_types.specs.{declared.kinds.Kind.TheVariants.Strings, Commands.Insert, Commands.Push, Commands.Quoted}
use Rattle.segment_manager.specs.{State.TakesStepOfKind, State.done_answer, objects.BoundObjects.key_of}
use Rattle.segment_manager.proofs.CommandLaws.{element-read, no_text-element, no_value-element, no_vector-element}
use Rattle.segment_manager.proofs.CommandLaws.{to-change, unchangeable-element}
use Rattle.segment_manager.proofs.Laws.{of-change}
use Rattle.segment_values.specs.declared.elements.InsertSpot.TheVariants.{Before, End}
use Rattle.segment_values.proofs.Exits.{exit-is}
use Rattle.segment_values.proofs.elements.Insertion.{add-refused, scalar-added, text-added}
use Rattle.segment_values.proofs.elements.add.Goals as goal

pub returns-in_err-object-clause-step : goal.returns-in_err-object-clause-step
returns-in_err-object-clause-step g c =
    rw (exit-is c.from_residual.ensures.1) (add-refused c.args.spot (unchangeable-element c.in_err-object.ensures _))

pub returns-in_err-element-in-Vector-clause-step : goal.returns-in_err-element-in-Vector-clause-step
returns-in_err-element-in-Vector-clause-step g c =
    rw (exit-is c.from_residual-in_err-element-in-Vector.ensures.1)
    (add-refused c.args.spot
    (no_value-element c.in_ok-object.ensures c.in-Vector.is c.in_err-element-in-Vector.ensures))

pub returns-in_ok-element-in-Vector-clause-step : goal.returns-in_ok-element-in-Vector-clause-step
returns-in_ok-element-in-Vector-clause-step g c =
    scalar-added c.in_ok-object.ensures.located c.args.spot
    (element-read c.in_ok-object.ensures c.in-Vector.is c.in_ok-element-in-Vector.element
    c.in_ok-element-in-Vector.ensures) c.insert_scalar.ensures.step

pub returns-in-End-clause-step : goal.returns-in-End-clause-step
returns-in-End-clause-step g c =
    let e : c.push.new.self.segment.now ≡ c.segment-1.given.0 = search rules in
    rw c.in-End.is (text-added c.in_ok-object.ensures.located End c.in-Strings.is c.in-Some.ensures
    (of-change (λ o u v. TakesStepOfKind u v (key_of o) Strings (Push (key_of o) (Quoted c.in-Some.text.now))
    (done_answer c.push.result)) c.at.ensures.object c.at.ensures.segment e c.push.ensures.step))

pub returns-in-Before-clause-step : goal.returns-in-Before-clause-step
returns-in-Before-clause-step g c =
    let e : c.insert.new.self.segment.now ≡ c.segment-in-Before-1.given.0 = search rules in
    rw c.in-Before.is (text-added c.in_ok-object.ensures.located (Before c.in-Before.index) c.in-Strings.is
    c.in-Some.ensures
    (of-change (λ o u v. TakesStepOfKind u v (key_of o) Strings (Insert (key_of o) c.in-Before.index
    (Quoted c.in-Some.text.now)) (done_answer c.insert.result)) c.at-in-Before.ensures.object
    c.at-in-Before.ensures.segment e c.insert.ensures.step))

pub returns-in-None-clause-step : goal.returns-in-None-clause-step
returns-in-None-clause-step g c =
    add-refused c.args.spot (no_text-element (to-change c.in_ok-object.ensures c.in-Strings.is) c.in-None.ensures)

pub returns-in_default-clause-step : goal.returns-in_default-clause-step
returns-in_default-clause-step g c =
    add-refused c.args.spot
    (no_vector-element c.in_ok-object.ensures c.in_default.not-Vector c.in_default.not-Strings _)
