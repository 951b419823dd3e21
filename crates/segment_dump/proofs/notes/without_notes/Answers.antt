use Rattle.segment_dump.proofs.Common.{◌≡◌, ◌<◌, length, drop, sym, subst, ◌∙◌, true, false, arith, are_notes}
use Rattle.segment_dump.proofs.reading.NoteLines.{cut-last, kept-whole}
use Rattle.segment_dump.proofs.notes.without_notes.Goals as goal

pub returns-then-not-is_note : goal.returns-then-not-is_note
returns-then-not-is_note c =
    let at = c.last_line_at.ensures in
    let other : 0 < length c.notes.left.now → are_notes true (drop c.last_line_at.result c.notes.left.now) ≡ false =
    λ s. subst (λ l. are_notes true l ≡ false) c.split_at.ensures.back
    (c.is_note.ensures.complete c.if-not-is_note.true (omega (arith, at.some s, c.split_at.ensures.back_len))) in
    sym (kept-whole c.notes.left.now c.last_line_at.result at other) ∙ c.notes.invariant

pub notes-preserved : goal.notes-preserved
notes-preserved c =
    cut-last c.notes.left.now c.last_line_at.result c.last_line_at.ensures c.split_at.result.0.now
    c.split_at.result.1.now c.split_at.ensures.front c.split_at.ensures.back
    (c.is_note.ensures.note c.if-not-is_note.false) ∙ c.notes.invariant
