-- The located object has the kind, and the offset of the value.
use Rattle.segment_manager.proofs.containers.element_runs.read_run.Goals as goal
use Rattle.segment_manager.proofs.Common.{Located, ap, arith, length, padded, sym, ◌+◌, ◌∙◌}
use Rattle.segment_manager.proofs.containers.ElementRuns.{string-read, vector-read}
use Rattle.segment_manager.proofs.objects.{Exchanged.room-small, Standings.standing-room}
use Rattle.segment_manager.specs.objects.Located.{value_offset}

pub overflow_add-result : goal.overflow_add-result
overflow_add-result c =
    let o = c.requires.object.0 in let s = c.requires.object.1 in let said = c.requires.text o s in
    let at = c.value_at-at.ensures ∙ ap value_offset said in
    let small = room-small c.args.heap.now c.args.object.handle (16 + padded (length o.name)) c.requires.heap
    (standing-room c.args.heap.now.bytes c.args.object.handle (16 + padded (length o.name)) o s (omega arith)) in
    omega (arith, at, small)

pub returns-in-Vector : goal.returns-in-Vector
returns-in-Vector c = λ o s.
    let said = c.requires.text o s in let read = c.storage_run.ensures in
    vector-read o s _ c.in-Vector.kind _ o.value (c.value_at-at.ensures ∙ ap value_offset said)
    (record { offset = read.offset; count = read.count; kind = read.kind })
    (sym c.in-Vector.is ∙ ap (λ (q : Located). q.kind) said) s.said.value

pub returns-in-String : goal.returns-in-String
returns-in-String c = λ o s.
    let said = c.requires.text o s in let read = c.storage_run-in-String.ensures in
    string-read o s _ _ o.value (c.value_at-at.ensures ∙ ap value_offset said)
    (record { offset = read.offset; count = read.count; kind = read.kind })
    (sym c.in-String.is ∙ ap (λ (q : Located). q.kind) said) s.said.value
