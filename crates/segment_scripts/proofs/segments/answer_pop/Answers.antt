use Rattle.std.proofs.Common.{◌∙◌, ap, sym}
use Rattle.seg_types.specs.declared.refusals.LineError.TheVariants.{BadSyntax}
use Rattle.seg_types.specs.Commands.{Pop}
use Rattle.seg_types.specs.Keys.{key_seen}
use Rattle.segment_lang.specs.Reading.{as_reading, key_of}
use Rattle.segment_lang.proofs.Laws.{of_key}
use Rattle.segment_scripts.proofs.segments.RefusedLines.{responds-wrong}
use Rattle.segment_scripts.proofs.segments.ZeroGaps.{responds-popped}
use Rattle.segment_scripts.proofs.segments.answer_pop.Goals as goal

pub returns-in-Some : goal.returns-in-Some
returns-in-Some g c =
    responds-popped (key_seen c.in-Some.key)
    (ap as_reading (c.in-Some.ensures Pop ∙ sym (of_key Pop key_of c.args.rest.now))) c.pop.ensures.execution
    c.pop.ensures.outcome

pub returns-in-None : goal.returns-in-None
returns-in-None g c =
    responds-wrong c.args.segment.now BadSyntax (ap as_reading (c.in-None.ensures Pop
    ∙ sym (of_key Pop key_of c.args.rest.now))) c.put_wrong.ensures.output c.put_wrong.ensures.report
