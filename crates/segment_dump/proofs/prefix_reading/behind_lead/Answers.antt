use Rattle.segment_dump.proofs.prefix_reading.behind_lead.Goals as goal
use Rattle.segment_dump.proofs.Common.{arith, codes, [], ◌∷◌}
use Rattle.segment_dump.proofs.reading.Sizes.{can-name-between, can-name-fewer, can-name-here}

pub returns-in-Some-clause-min_len : goal.returns-in-Some-clause-min_len
returns-in-Some-clause-min_len c =
    can-name-between c.args.text.now (codes "named ") (0x20 ∷ []) c.in-Some.rest.now c.in_ok-len.rest.now
    c.in_ok-behind.field-0.now c.in_ok-len.len c.in-Some.ensures c.in_ok-len.ensures.min_len c.in_ok-behind.ensures

pub returns-in-Some-behind-clause-min_len : goal.returns-in-Some-behind-clause-min_len
returns-in-Some-behind-clause-min_len c =
    can-name-fewer c.args.text.now c.in-Some-behind.rest.now 0 7 (omega arith)
    (can-name-here c.args.text.now (codes "unique ") c.in-Some-behind.rest.now c.in-Some-behind.ensures)

pub returns-clause-min_len : goal.returns-clause-min_len
returns-clause-min_len c =
    can-name-fewer c.args.text.now c.in_ok-behind-2.field-0.now 0 10 (omega arith)
    (can-name-here c.args.text.now (codes "anonymous ") c.in_ok-behind-2.field-0.now c.in_ok-behind-2.ensures)
