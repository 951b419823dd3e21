-- An element, or else a value of a map.
use Rattle.std.proofs.Common.{None, Some, subst}
use Rattle.std.specs.Prelude.{option_map}
use Rattle.seg_types.specs.Keys.{key_seen}
use Rattle.segment_lang.specs.Lexing.{number_of}
use Rattle.segment_manager.specs.State.{AnswersWith}
use Rattle.segment_commands.specs.Getting.{got, literal_in, looked_up}
use Rattle.segment_commands.specs.RawValues.{raw_text}
use Rattle.segment_commands.proofs.getting.Found.{first, second}
use Rattle.segment_commands.proofs.getting.value_at.Goals as goal

pub returns-in-Some : goal.returns-in-Some
returns-in-Some c =
    let s = c.args.segment.now in
    let key = key_seen c.args.key.now in
    let index = c.args.index.now in
    first s (λ d. got s.mode d key (number_of index)) (λ d. looked_up s.mode d key (literal_in index)) _
    (subst (λ n. AnswersWith s (λ d. got s.mode d key n) (Some (raw_text c.in-Some.value))) c.number_of.ensures
    c.in-Some.ensures)

pub returns-in-None : goal.returns-in-None
returns-in-None c =
    let s = c.args.segment.now in
    let key = key_seen c.args.key.now in
    let index = c.args.index.now in
    second s (λ d. got s.mode d key (number_of index)) (λ d. looked_up s.mode d key (literal_in index)) _
    (subst (λ n. AnswersWith s (λ d. got s.mode d key n) None) c.number_of.ensures c.in-None.ensures)
    c.pair_at.ensures
