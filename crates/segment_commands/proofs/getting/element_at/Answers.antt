-- The first of two calls that finds the element.
use Rattle.std.proofs.Common.{None, Some}
use Rattle.std.specs.Prelude.{option_map}
use Rattle.seg_types.specs.Commands.{Get}
use Rattle.seg_types.specs.Keys.{key_seen}
use Rattle.seg_types.specs.declared.kinds.Kind.TheVariants.{Strings}
use Rattle.segment_manager.specs.Answers.{TextElement}
use Rattle.segment_manager.specs.Calls.{scalar_reply}
use Rattle.segment_manager.specs.State.{answer_of, scalar_answer}
use Rattle.segment_manager.specs.Step.{step_of_kind}
use Rattle.segment_commands.specs.Getting.{raw_of}
use Rattle.segment_commands.specs.RawValues.{raw_text}
use Rattle.segment_commands.proofs.getting.Found.{first, said, second}
use Rattle.segment_commands.proofs.getting.element_at.Goals as goal

pub returns-in-Some : goal.returns-in-Some
returns-in-Some c =
    let s = c.args.segment.now in
    let key = key_seen c.args.key.now in
    let get = Get key c.args.index in
    first s (λ d. raw_of (scalar_reply s.mode d key get)) (λ d. raw_of (step_of_kind s.mode d key Strings get).0) _
    (said s (λ d. scalar_reply s.mode d key get) (scalar_answer c.get.result) (Some (raw_text c.in-Some.value))
    c.get.ensures c.in-Some.ensures)

pub returns-in-None : goal.returns-in-None
returns-in-None c =
    let s = c.args.segment.now in
    let key = key_seen c.args.key.now in
    let get = Get key c.args.index in
    second s (λ d. raw_of (scalar_reply s.mode d key get)) (λ d. raw_of (step_of_kind s.mode d key Strings get).0) _
    (said s (λ d. scalar_reply s.mode d key get) (scalar_answer c.get.result) None c.get.ensures
    c.in-None.ensures)
    (said s (λ d. (step_of_kind s.mode d key Strings get).0)
    (answer_of (λ text. TextElement text.now) c.texts_get.result) (option_map raw_text c.as_text.result)
    c.texts_get.ensures c.as_text.ensures)
