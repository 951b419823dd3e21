use Rattle.std.proofs.Common.{ap}
use Rattle.seg_types.specs.declared.refusals.LineError.TheVariants.{BadSyntax}
use Rattle.segment_lang.specs.Reading.{as_reading}
use Rattle.segment_lang.specs.Seen.{operation_of}
use Rattle.segment_scripts.proofs.segments.RefusedLines.{responds-wrong}
use Rattle.segment_scripts.proofs.segments.ZeroGaps.{responds-replied}
use Rattle.segment_scripts.proofs.segments.answer_operation.Goals as goal

pub reply-answer-requires : goal.reply-answer-requires
reply-answer-requires g c = c.requires.meaning (operation_of c.in-Some.operation) (ap as_reading c.in-Some.ensures)

pub returns-in-Some : goal.returns-in-Some
returns-in-Some g c = responds-replied (ap as_reading c.in-Some.ensures) c.reply-answer.ensures c.put_answer.ensures

pub returns-in-None : goal.returns-in-None
returns-in-None g c =
    responds-wrong c.args.segment.now BadSyntax (ap as_reading c.in-None.ensures) c.put_wrong.ensures.output
    c.put_wrong.ensures.report
