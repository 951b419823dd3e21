-- All of a string, or else the first element.
use Rattle.std.proofs.Common.{ap}
use Rattle.seg_types.specs.Keys.{key_seen}
use Rattle.segment_manager.specs.containers.Contents.{bytes_at}
use Rattle.segment_commands.specs.Getting.{element_of, text_in}
use Rattle.segment_commands.proofs.getting.Found.{first, second}
use Rattle.segment_commands.proofs.getting.first_value.Goals as goal

pub returns-in-Ok : goal.returns-in-Ok
returns-in-Ok c =
    let s = c.args.segment.now in
    let key = key_seen c.args.key.now in
    first s (λ d. text_in (bytes_at d key)) (λ d. element_of s.mode d key 0) _
    (record { answers = λ d k. ap text_in (c.in-Ok.ensures.answers d k) })

pub returns-in-Err : goal.returns-in-Err
returns-in-Err c =
    let s = c.args.segment.now in
    let key = key_seen c.args.key.now in
    second s (λ d. text_in (bytes_at d key)) (λ d. element_of s.mode d key 0) _
    (record { answers = λ d k. ap text_in (c.in-Err.ensures.answers d k) })
    c.element_at.ensures
