use Rattle.std.proofs.Common.{ap, sym}
use Rattle.seg_types.specs.Keys.{key_seen}
use Rattle.segment_manager.proofs.Laws.{same-object}
use Rattle.segment_scripts.specs.declared.answered.Answered.TheVariants.{Done}
use Rattle.segment_scripts.specs.Answer.{answer_text}
use Rattle.segment_scripts.specs.Replies.{told_of}
use Rattle.segment_scripts.proofs.listing.Objects.{told-here, told-missing}
use Rattle.segment_scripts.proofs.listing.Output.{writes_same}
use Rattle.segment_scripts.proofs.segments.Refusals.{answers-once, answers-owed}
use Rattle.segment_scripts.proofs.telling.put_info_answer.Goals as goal

pub returns-in-Ok : goal.returns-in-Ok
returns-in-Ok g c =
    let s = c.args.segment.now in
    let key = key_seen c.args.key.now in
    let same = same-object s key c.in-Ok.object c.in-Ok.ensures in
    answers-once Done c.once.ensures
    (writes_same c.put_object.ensures (λ d k. ap (λ r. answer_text (told_of r)) (sym (same d k))))
    (told-here s key c.in-Ok.object c.in-Ok.ensures)

pub returns-in-Err : goal.returns-in-Err
returns-in-Err g c =
    let s = c.args.segment.now in
    let key = key_seen c.args.key.now in
    answers-owed c.put_refusal_line.ensures.output c.put_refusal_line.ensures.report
    (told-missing s key c.in-Err.why c.in-Err.ensures)
