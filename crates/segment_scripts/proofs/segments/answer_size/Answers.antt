use Rattle.std.proofs.Common.{◌∙◌, Bool, None, Some, ap, cond, refl, sym}
use Rattle.seg_types.specs.declared.refusals.LineError.TheVariants.{BadSyntax}
use Rattle.seg_types.specs.Commands.{Size}
use Rattle.segment_lang.specs.Reading.{as_reading}
use Rattle.segment_lang.proofs.Laws.{alone_at_end}
use Rattle.segment_scripts.specs.declared.answered.Answered.TheVariants.{Done}
use Rattle.segment_scripts.proofs.segments.Refusals.{tells-once, writes-once}
use Rattle.segment_scripts.proofs.segments.RefusedLines.{responds-wrong}
use Rattle.segment_scripts.proofs.segments.ZeroGaps.{responds-number}
use Rattle.segment_scripts.proofs.segments.answer_size.Goals as goal

pub returns-then-not-at_end : goal.returns-then-not-at_end
returns-then-not-at_end g c =
    responds-wrong c.args.segment.now BadSyntax
    (sym (ap as_reading (alone_at_end Size c.args.rest.now
    ∙ ap (λ (b : Bool). cond b (Some Size) None) (sym c.at_end.ensures ∙ c.if-not-at_end.true))))
    c.put_wrong.ensures.output c.put_wrong.ensures.report

pub returns : goal.returns
returns g c =
    responds-number c.args.segment.now Size refl
    (sym (ap as_reading (alone_at_end Size c.args.rest.now
    ∙ ap (λ (b : Bool). cond b (Some Size) None) (sym c.at_end.ensures ∙ c.if-not-at_end.false)))) c.size.ensures
    (writes-once Done c.once.ensures c.put_number_line.ensures)
    (tells-once Done c.put_number_line.result c.once.ensures)
