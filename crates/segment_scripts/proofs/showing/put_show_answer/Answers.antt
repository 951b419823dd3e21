use Rattle.seg_types.specs.Keys.{key_seen}
use Rattle.segment_manager.proofs.Laws.{located-here}
use Rattle.segment_scripts.specs.declared.answered.Answered.TheVariants.{Done}
use Rattle.segment_scripts.proofs.listing.Output.{writes_same}
use Rattle.segment_scripts.proofs.segments.Refusals.{answers-once, answers-owed}
use Rattle.segment_scripts.proofs.listing.Contents.{shown-by_key, shown-here, shown-missing}
use Rattle.segment_scripts.proofs.showing.put_show_answer.Goals as goal

pub put_value-requires-clause-object : goal.put_value-requires-clause-object
put_value-requires-clause-object g c =
    located-here c.args.segment.now (key_seen c.args.key.now) c.in-Ok.object c.in-Ok.ensures

pub returns-in-Ok : goal.returns-in-Ok
returns-in-Ok g c =
    let s = c.args.segment.now in
    let key = key_seen c.args.key.now in
    answers-once Done c.once.ensures
    (writes_same c.put_value.ensures (shown-by_key s key c.in-Ok.object c.in-Ok.ensures))
    (shown-here s key c.in-Ok.object c.in-Ok.ensures)

pub returns-in-Err : goal.returns-in-Err
returns-in-Err g c =
    let s = c.args.segment.now in
    answers-owed c.put_refusal_line.ensures.output c.put_refusal_line.ensures.report
    (shown-missing s (key_seen c.args.key.now) c.in-Err.why c.in-Err.ensures)
