use Rattle.std.proofs.Common.{◌∙◌, ap, refl, sym}
use Rattle.seg_types.specs.declared.refusals.LineError.TheVariants.{BadSyntax}
use Rattle.seg_types.specs.Commands.{Get}
use Rattle.seg_types.specs.Keys.{key_seen}
use Rattle.segment_lang.specs.Reading.{as_reading}
use Rattle.segment_lang.proofs.Laws.{of_key_number}
use Rattle.segment_scripts.proofs.segments.RefusedLines.{responds-wrong}
use Rattle.segment_scripts.proofs.segments.ZeroGaps.{responds-read}
use Rattle.segment_scripts.proofs.segments.answer_get.Goals as goal

pub returns-in-Some : goal.returns-in-Some
returns-in-Some g c =
    responds-read c.args.segment.now (Get (key_seen c.in-Some.key) c.in-Some.index) refl
    (ap as_reading (c.in-Some.ensures Get ∙ sym (of_key_number Get c.args.rest.now))) c.put_get_answer.ensures

pub returns-in-None : goal.returns-in-None
returns-in-None g c =
    responds-wrong c.args.segment.now BadSyntax (ap as_reading (c.in-None.ensures Get
    ∙ sym (of_key_number Get c.args.rest.now))) c.put_wrong.ensures.output c.put_wrong.ensures.report
