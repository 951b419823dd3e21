use Rattle.std.proofs.Common.{ap, sym, ◌∙◌}
use Rattle.segment_log.specs.Edits.{edited}
use Rattle.segment_log.proofs.edits.Reading.{edited_some, edited_none}
use Rattle.segment_log.proofs.edits.edit.Goals as goal

pub loop-at-preserved : goal.loop-at-preserved
loop-at-preserved c =
    ap (edited c.in-Some.behind.now) c.put.ensures
    ∙ sym
    (edited_some c.loop-at.rest.now c.loop-at.image c.in-Some.at c.in-Some.bytes.now c.in-Some.behind.now
    c.in-Some.ensures)
    ∙ c.loop-at.invariant

pub returns : goal.returns
returns c = sym (edited_none c.loop-at.rest.now c.loop-at.image c.in_default.ensures) ∙ c.loop-at.invariant
