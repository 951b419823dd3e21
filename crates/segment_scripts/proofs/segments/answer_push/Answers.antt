use Rattle.std.proofs.Common.{◌∙◌, ap, refl, sym}
use Rattle.seg_types.specs.declared.refusals.LineError.TheVariants.{BadSyntax}
use Rattle.seg_types.specs.Commands.{Push}
use Rattle.seg_types.specs.Keys.{key_seen}
use Rattle.segment_lang.specs.Reading.{as_reading}
use Rattle.segment_lang.specs.Seen.{literal_of}
use Rattle.segment_lang.proofs.Laws.{of_key_literal}
use Rattle.segment_manager.specs.Answers.{Done}
use Rattle.segment_scripts.proofs.segments.CommandSteps.{replies-plain}
use Rattle.segment_scripts.proofs.changing.Texts.{has-room}
use Rattle.segment_scripts.proofs.segments.RefusedLines.{responds-wrong}
use Rattle.segment_scripts.proofs.segments.ZeroGaps.{responds-replied}
use Rattle.segment_scripts.proofs.segments.answer_push.Goals as goal

pub add-requires : goal.add-requires
add-requires g c =
    has-room (literal_of c.in-Some.value)
    (c.requires.meaning (Push (key_seen c.in-Some.key) (literal_of c.in-Some.value))
    (ap as_reading (c.in-Some.ensures Push ∙ sym (of_key_literal Push c.args.rest.now))))

pub returns-in-Some : goal.returns-in-Some
returns-in-Some g c =
    responds-replied (ap as_reading (c.in-Some.ensures Push ∙ sym (of_key_literal Push c.args.rest.now)))
    (replies-plain (λ _. Done) (λ _. refl) c.add.result refl refl c.done-answer.ensures c.add.ensures.step
    c.add.ensures.refused (λ _. refl))
    c.put_answer.ensures

pub returns-in-None : goal.returns-in-None
returns-in-None g c =
    responds-wrong c.args.segment.now BadSyntax (ap as_reading (c.in-None.ensures Push
    ∙ sym (of_key_literal Push c.args.rest.now))) c.put_wrong.ensures.output c.put_wrong.ensures.report
