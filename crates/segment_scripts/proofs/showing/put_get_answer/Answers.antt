use Rattle.std.proofs.Common.{◌∙◌, Ok, ap, subst}
use Rattle.seg_types.specs.Commands.{Get}
use Rattle.seg_types.specs.Keys.{key_seen}
use Rattle.seg_types.specs.Names.{ByHandle}
use Rattle.segment_manager.specs.Calls.{kind_at}
use Rattle.segment_manager.specs.State.{AnswersWith, scalar_answer}
use Rattle.segment_manager.proofs.Laws.{binds, kind-by_key, kind-no_texts, located-here, scalars-replies, step-same}
use Rattle.segment_scripts.proofs.segments.Refusals.{answers-owed, answers-same}
use Rattle.segment_scripts.proofs.changing.Texts.{get-missing, get-text}
use Rattle.segment_scripts.proofs.showing.put_get_answer.Goals as goal

pub put_text_at-requires-clause-object : goal.put_text_at-requires-clause-object
put_text_at-requires-clause-object g c = binds c.in-Ok.ensures.here c.in-Strings.is

pub returns-in-Strings : goal.returns-in-Strings
returns-in-Strings g c =
    let s = c.args.segment.now in
    let key = key_seen c.args.key.now in
    let o = c.in-Ok.object in
    let handle = ByHandle o.handle in
    let l = c.in-Ok.ensures in
    answers-same c.put_text_at.ensures
    (λ d k.
    get-text s handle (subst (λ n. AnswersWith s (λ d. kind_at d handle) (Ok n)) c.in-Strings.is
    (kind-by_key s handle o (located-here s key o l))) c.args.index d k
    ∙ ap (λ n. n.0) (step-same s key o l (Get key c.args.index) d k))

pub returns-in_default : goal.returns-in_default
returns-in_default g c =
    let s = c.args.segment.now in
    let key = key_seen c.args.key.now in
    let o = c.in-Ok.object in
    let handle = ByHandle o.handle in
    let l = c.in-Ok.ensures in
    let r = scalars-replies s handle c.args.index (scalar_answer c.get_element.result)
    (kind-no_texts s handle o.kind (kind-by_key s handle o (located-here s key o l)) c.in_default.not-Strings)
    c.get_element.ensures in
    answers-same c.put_answer.ensures
    (λ d k. c.element.ensures d ∙ r.answers d k ∙ ap (λ n. n.0) (step-same s key o l (Get key c.args.index) d k))

pub returns-in-Err : goal.returns-in-Err
returns-in-Err g c =
    let s = c.args.segment.now in
    let key = key_seen c.args.key.now in
    answers-owed c.put_refusal_line.ensures.output c.put_refusal_line.ensures.report
    (λ d k. get-missing s key c.in-Err.why c.in-Err.ensures c.args.index d k)
