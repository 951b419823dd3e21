use Rattle.seg_types.specs.declared.kinds.Kind.TheVariants.{Strings}
use Rattle.seg_types.specs.Commands.{Get}
use Rattle.segment_manager.specs.{Answers.Refused, Answers.TextElement, objects.BoundObjects.key_of}
use Rattle.segment_manager.specs.State.{AnswersQueryOfKind}
use Rattle.segment_manager.proofs.Laws.{of-bound}
use Rattle.segment_scripts.specs.declared.answered.Answered.TheVariants.{Done}
use Rattle.segment_scripts.proofs.segments.Refusals.{answers-owed, tells-once, writes-once}
use Rattle.segment_scripts.proofs.changing.Texts.{text-asked}
use Rattle.segment_scripts.proofs.showing.put_text_at.Goals as goal

pub returns-in-Ok : goal.returns-in-Ok
returns-in-Ok g c =
    let said = of-bound (λ o s. AnswersQueryOfKind s (key_of o) Strings (Get (key_of o) c.args.index)
    (TextElement c.in-Ok.text.now))
    c.at.ensures.object c.at.ensures.segment c.in-Ok.ensures.reply in
    answers-owed (writes-once Done c.once.ensures c.put_pieces.ensures)
    (tells-once Done c.put_pieces.result c.once.ensures)
    (λ d k. text-asked c.args.segment.now (key_of c.args.object) c.args.index _ said d k)

pub returns-in-Err : goal.returns-in-Err
returns-in-Err g c =
    let said = of-bound (λ o s. AnswersQueryOfKind s (key_of o) Strings (Get (key_of o) c.args.index)
    (Refused c.in-Err.why))
    c.at.ensures.object c.at.ensures.segment c.in-Err.ensures.reply in
    answers-owed c.put_refusal_line.ensures.output c.put_refusal_line.ensures.report
    (λ d k. text-asked c.args.segment.now (key_of c.args.object) c.args.index _ said d k)
