use Rattle.segment_dump.proofs.Common.{ap, ◌∙◌, only_room}
use Rattle.segment_dump.proofs.counting.count_string.Goals as goal

pub returns-clause-questions : goal.returns-clause-questions
returns-clause-questions c =
    let text = c.in_ok-len.ensures.text in
    record {
      bytes = text.bytes;
      is = text.is;
      says = (c.in_ok-len.len, text.says, c.only_room.ensures ∙ ap only_room c.block_room.ensures.value);
    }
