use Rattle.std.proofs.Common.{◌∙◌, ap, refl, sym}
use Rattle.seg_types.specs.declared.refusals.LineError.TheVariants.{BadSyntax}
use Rattle.segment_lang.specs.Reading.{as_reading}
use Rattle.segment_lang.proofs.Laws.{of_putting}
use Rattle.segment_manager.specs.Answers.{Boolean}
use Rattle.segment_scripts.proofs.segments.CommandSteps.{keeps-refused, replies-plain}
use Rattle.segment_scripts.proofs.segments.RefusedLines.{responds-wrong}
use Rattle.segment_scripts.proofs.segments.ZeroGaps.{responds-replied}
use Rattle.segment_scripts.proofs.segments.answer_put.Goals as goal

pub returns-in-Some : goal.returns-in-Some
returns-in-Some g c =
    responds-replied (ap as_reading (c.in-Some.ensures ∙ sym (of_putting c.args.rest.now)))
    (replies-plain Boolean (λ _. refl) c.put_pair.result refl refl c.truth-answer.ensures c.put_pair.ensures.step
    (keeps-refused c.args.segment.now c.put_pair.new.segment c.put_pair.result c.put_pair.ensures.refused) (λ _. refl))
    c.put_answer.ensures

pub returns-in-None : goal.returns-in-None
returns-in-None g c =
    responds-wrong c.args.segment.now BadSyntax (ap as_reading (c.in-None.ensures
    ∙ sym (of_putting c.args.rest.now))) c.put_wrong.ensures.output c.put_wrong.ensures.report
