use Rattle.segment_dump.proofs.notes.is_note.Goals as goal
use Rattle.segment_dump.proofs.{Common.◌==◌, Common.ap, Common.true, Common.false, reading.NoteLines.note-told}

pub returns-clause-note : goal.returns-clause-note
returns-clause-note c = λ e. note-told c.args.line.now true c.requires (ap (λ b. b == 0x23) c.if-line-ne35.false) e

pub returns-clause-complete : goal.returns-clause-complete
returns-clause-complete c = λ e s. note-told c.args.line.now false c.requires
    (ap (λ b. b == 0x23) c.if-line-ne35.false) e
