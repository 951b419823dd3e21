use Rattle.segment_dump.proofs.counting.skip.Goals as goal

pub returns-clause-questions : goal.returns-clause-questions
returns-clause-questions c =
    let lined = c.in_ok-behind_lines.ensures.line in
    record { bytes = lined.bytes; is = lined.is; says = (lined.says, c.only_room.ensures) }
