use Rattle.std.proofs.Common.{sym, ap, ◌∙◌, Ok, Err}
use Rattle.seg_types.specs.Values.{kind_of_scalar, value_of_scalar}
use Rattle.seg_types.specs.{declared.kinds.Kind.TheVariants.Strings, Commands.Get}
use Rattle.segment_manager.specs.{Answers.Refused, Answers.TextElement, containers.Contents.bytes_at, State.AnswersWith}
use Rattle.segment_manager.specs.{objects.BoundObjects.key_of, State.AnswersQueryOfKind}
use Rattle.segment_manager.proofs.Laws.{of-bound}
use Rattle.segment_values.proofs.LaidElements.{element_text, scalar-part, string-part, string_text, text-part}
use Rattle.segment_values.proofs.Owed.{of-none, of-one}
use Rattle.segment_values.proofs.contents.put_element.Goals as goal

pub returns-in-String : goal.returns-in-String
returns-in-String g c =
    let sp = g.L.Layout.spelling c.args.layout.now in
    let said = of-bound (λ o s. AnswersWith s (λ d. bytes_at d (key_of o)) (Ok c.as_bytes.result.now))
    c.at.ensures.object c.at.ensures.segment c.as_bytes.ensures in
    of-one c.put_text.ensures
    (λ d k. ap (string_text sp c.args.index) (said.answers d k)
    ∙ string-part c.args.segment.now c.args.object c.requires.object sp c.args.index c.in-String.is d k)

pub returns-in-Ok : goal.returns-in-Ok
returns-in-Ok g c =
    let sp = g.L.Layout.spelling c.args.layout.now in
    let said = of-bound (λ o s. AnswersQueryOfKind s (key_of o) Strings (Get (key_of o) c.args.index)
    (TextElement c.in-Ok.text.now))
    c.at-in-Strings.ensures.object c.at-in-Strings.ensures.segment c.in-Ok.ensures.reply in
    of-one c.put_text-in-Ok.ensures (λ d k. text-part c.args.segment.now c.args.object c.requires.object sp c.args.index
    c.in-Strings.is d k (Ok c.in-Ok.text.now) (said.answers d k))

pub returns-in-Err : goal.returns-in-Err
returns-in-Err g c =
    let sp = g.L.Layout.spelling c.args.layout.now in
    let said = of-bound (λ o s. AnswersQueryOfKind s (key_of o) Strings (Get (key_of o) c.args.index)
    (Refused c.in-Err.field-0))
    c.at-in-Strings.ensures.object c.at-in-Strings.ensures.segment c.in-Err.ensures.reply in
    of-none (λ d k. sym (text-part c.args.segment.now c.args.object c.requires.object sp c.args.index c.in-Strings.is d
    k (Err c.in-Err.field-0) (said.answers d k)))

pub returns-in-Ok-get_element : goal.returns-in-Ok-get_element
returns-in-Ok-get_element g c =
    let sp = g.L.Layout.spelling c.args.layout.now in
    let v = c.in-Ok-get_element.value in
    of-one {text = sp.scalar c.args.index (kind_of_scalar v) (value_of_scalar v)} c.put_scalar.ensures
    (λ d k. ap (element_text sp c.args.index) (c.in-Ok-get_element.ensures.answers d k)
    ∙ scalar-part c.args.segment.now c.args.object c.requires.object sp c.args.index c.in_default.not-String
    c.in_default.not-Strings c.requires.kind d k)

pub returns-in-Err-get_element : goal.returns-in-Err-get_element
returns-in-Err-get_element g c =
    let sp = g.L.Layout.spelling c.args.layout.now in
    of-none
    (λ d k. sym (ap (element_text sp c.args.index) (c.in-Err-get_element.ensures.answers d k)
    ∙ scalar-part c.args.segment.now c.args.object c.requires.object sp c.args.index c.in_default.not-String
    c.in_default.not-Strings c.requires.kind d k))
