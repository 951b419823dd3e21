-- The value of the key that the word spells.
use Rattle.std.proofs.Common.{ap, subst}
use Rattle.std.specs.Prelude.{option_and_then, option_map}
use Rattle.segment_manager.specs.State.{AnswersWith}
use Rattle.segment_commands.specs.Getting.{value_of_key}
use Rattle.segment_commands.specs.RawValues.{raw_text}
use Rattle.segment_commands.proofs.getting.value_for.Goals as goal

pub returns-in-Some : goal.returns-in-Some
returns-in-Some c =
    let s = c.args.segment.now in
    let index = option_map (λ i. i.now) c.args.index in
    subst (λ o. AnswersWith s (λ d. option_and_then (value_of_key s.mode d index) o)
    (option_map raw_text c.value_of.result)) c.in-Some.ensures c.value_of.ensures

pub returns-in-None : goal.returns-in-None
returns-in-None c =
    let s = c.args.segment.now in
    let index = option_map (λ i. i.now) c.args.index in
    record { answers = λ d k. ap (option_and_then (value_of_key s.mode d index)) c.in-None.ensures }
