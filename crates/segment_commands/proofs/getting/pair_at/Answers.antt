-- What is looked up is what the bytes spell.
use Rattle.std.proofs.Common.{ap, subst}
use Rattle.std.specs.Prelude.{option_map}
use Rattle.seg_types.specs.Commands.{Lookup}
use Rattle.seg_types.specs.Keys.{key_seen}
use Rattle.segment_lang.specs.Seen.{literal_of}
use Rattle.segment_manager.specs.State.{AnswersWith}
use Rattle.segment_manager.specs.Step.{step}
use Rattle.segment_manager.specs.containers.Maps.{any_value_answer}
use Rattle.segment_commands.specs.Getting.{looked_up}
use Rattle.segment_commands.specs.RawValues.{raw_text}
use Rattle.segment_commands.proofs.getting.Found.{said}
use Rattle.segment_commands.proofs.getting.pair_at.Goals as goal

pub returns-in-Some : goal.returns-in-Some
returns-in-Some c =
    let s = c.args.segment.now in
    let key = key_seen c.args.key.now in
    subst (λ o. AnswersWith s (λ d. looked_up s.mode d key o) (option_map raw_text c.as_found.result))
    c.in-Some.ensures
    (said s (λ d. (step s.mode d (Lookup key (literal_of c.in-Some.at))).0) (any_value_answer c.look_up.result)
    (option_map raw_text c.as_found.result) c.look_up.ensures c.as_found.ensures)

pub returns-in-None : goal.returns-in-None
returns-in-None c =
    let s = c.args.segment.now in
    record { answers = λ d k. ap (looked_up s.mode d (key_seen c.args.key.now)) c.in-None.ensures }
