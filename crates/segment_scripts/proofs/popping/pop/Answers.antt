use Rattle.std.proofs.Common.{ap, refl}
use Rattle.seg_types.specs.declared.kinds.Kind.TheVariants.{Vector}
use Rattle.seg_types.specs.declared.refusals.Refusal.TheVariants.{WrongKind}
use Rattle.seg_types.specs.Commands.{Pop}
use Rattle.seg_types.specs.Keys.{key_seen}
use Rattle.seg_types.specs.Values.{kind_of_scalar, value_of_scalar}
use Rattle.segment_manager.specs.Answers.{Element, Refused}
use Rattle.segment_manager.specs.State.{scalar_answer}
use Rattle.segment_manager.proofs.Laws.{binds, located-steps, step-same}
use Rattle.segment_scripts.proofs.segments.CommandSteps.{keeps-refused, kept-refused}
use Rattle.segment_manager.proofs.CommandLaws.{pop-no_vector, pop-unchangeable}
use Rattle.segment_scripts.proofs.segments.Refusals.{answers-owed, answers-same}
use Rattle.segment_scripts.proofs.changing.Texts.{executes-by_key, executes-step, step-answers}
use Rattle.segment_scripts.proofs.popping.pop.Goals as goal

pub returns-in-Err-clause-execution : goal.returns-in-Err-clause-execution
returns-in-Err-clause-execution g c =
    let s = c.args.segment.now in
    let key = key_seen c.args.key.now in
    executes-step s s (Pop key) (Refused c.in-Err.why) (pop-unchangeable c.in-Err.ensures) (λ _. refl)

pub returns-in-Err-clause-outcome : goal.returns-in-Err-clause-outcome
returns-in-Err-clause-outcome g c =
    answers-owed c.put_refusal_line.ensures.output c.put_refusal_line.ensures.report
    (pop-unchangeable c.in-Err.ensures).answers

pub returns-in-Vector-clause-execution : goal.returns-in-Vector-clause-execution
returns-in-Vector-clause-execution g c =
    let s = c.args.segment.now in
    let key = key_seen c.args.key.now in
    let new = c.pop_element.new.segment in
    let r = c.pop_element.result in
    executes-step s new (Pop key) (scalar_answer r)
    (located-steps s key c.in-Ok.object c.in-Ok.ensures.located new (Vector c.in-Vector.kind) (Pop key)
    (scalar_answer r) c.in-Vector.is c.pop_element.ensures.step)
    (kept-refused (λ v. Element (kind_of_scalar v) (value_of_scalar v)) (λ _.
    refl) r s new (keeps-refused s new r c.pop_element.ensures.refused))

pub returns-in-Vector-clause-outcome : goal.returns-in-Vector-clause-outcome
returns-in-Vector-clause-outcome g c =
    let s = c.args.segment.now in
    let key = key_seen c.args.key.now in
    let new = c.pop_element.new.segment in
    let r = c.pop_element.result in
    step-answers s new (Pop key) (scalar_answer r) c.element-answer.result (g.W.Sink.history c.args.out.now)
    (g.W.Sink.history c.put_answer.new.out) c.put_answer.result
    (located-steps s key c.in-Ok.object c.in-Ok.ensures.located new (Vector c.in-Vector.kind) (Pop key)
    (scalar_answer r) c.in-Vector.is c.pop_element.ensures.step) c.element-answer.ensures c.put_answer.ensures

pub pop_text-requires-clause-object : goal.pop_text-requires-clause-object
pop_text-requires-clause-object g c = binds c.in-Ok.ensures.located.here c.in-Strings.is

pub pop_element-requires-clause-object : goal.pop_element-requires-clause-object
pop_element-requires-clause-object g c = binds c.in-Ok.ensures.located.here c.in-Vector.is

pub returns-in-Strings-clause-execution : goal.returns-in-Strings-clause-execution
returns-in-Strings-clause-execution g c =
    executes-by_key c.args.segment.now (key_seen c.args.key.now) c.in-Ok.object c.in-Ok.ensures.located
    c.pop_text.new.segment (Pop (key_seen c.args.key.now)) c.pop_text.ensures.execution

pub returns-in-Strings-clause-outcome : goal.returns-in-Strings-clause-outcome
returns-in-Strings-clause-outcome g c =
    let s = c.args.segment.now in
    let key = key_seen c.args.key.now in
    answers-same c.pop_text.ensures.outcome
    (λ d st. ap (λ n. n.0) (step-same s key c.in-Ok.object c.in-Ok.ensures.located (Pop key) d st))

pub returns-in_default-clause-execution : goal.returns-in_default-clause-execution
returns-in_default-clause-execution g c =
    let s = c.args.segment.now in
    let key = key_seen c.args.key.now in
    executes-step s s (Pop key) (Refused WrongKind)
    (pop-no_vector c.in-Ok.ensures c.in_default.not-Vector c.in_default.not-Strings) (λ _. refl)

pub returns-in_default-clause-outcome : goal.returns-in_default-clause-outcome
returns-in_default-clause-outcome g c =
    let last = c.put_refusal_line-in_default in
    answers-owed last.ensures.output last.ensures.report
    (pop-no_vector c.in-Ok.ensures c.in_default.not-Vector c.in_default.not-Strings).answers
