use Rattle.std.proofs.Common.{◌≡◌, List, ℕ, refl, ◌∙◌, subst, true}
use Rattle.std.proofs.lemmas.Result.{err_from_is_err_and}
use Rattle.segment_log.specs.Committing.{AsksFor}
use Rattle.segment_log.specs.Laws.{through_events}
use Rattle.segment_log.specs.Records.{shut_gate}
use Rattle.segment_log.proofs.committing.Ended.{not_begun, not_placed, not_emptied, emptied_now, through}
use Rattle.segment_log.proofs.committing.checkpoint.Goals as goal

pub returns-in_err-gate : goal.returns-in_err-gate
returns-in_err-gate g c =
    let p = err_from_is_err_and c.from_residual.result c.from_residual.ensures.1 in
    rw (p.1, p.2) (not_begun g.D.LogDisk.log_step c.args.disk.now c.args.disk.now c.args.image.now refl)

pub returns-in_err-place : goal.returns-in_err-place
returns-in_err-place g c =
    let from = c.from_residual-in_err-place in
    let p = err_from_is_err_and from.result from.ensures.1 in
    rw (p.1, p.2) (not_placed g.D.LogDisk.log_step c.args.disk.now c.place.new.self c.args.image.now
    c.in_err-place.ensures)

pub returns-in_err-write_through : goal.returns-in_err-write_through
returns-in_err-write_through g c =
    let step = g.D.LogDisk.log_step in
    let from = c.from_residual-in_err-write_through in
    let p = err_from_is_err_and from.result from.ensures.1 in
    let w = c.in_err-write_through.ensures in
    let mid = c.place.new.self in
    let new = c.write_through.new.disk in
    let gate : c.deref.result.now ≡ shut_gate = c.deref.ensures.value ∙ c.in_ok-gate.ensures in
    rw (p.1, p.2) (not_emptied step c.args.disk.now new c.args.image.now mid c.in_ok-place.ensures w.written w.synced
    w.answer (subst (λ (b : List ℕ). AsksFor step mid (through_events 0 b w.written w.synced) new) gate w.asked))

pub returns : goal.returns
returns g c =
    let step = g.D.LogDisk.log_step in
    let w = c.in_ok-write_through.ensures in
    let mid = c.place.new.self in
    let new = c.write_through.new.disk in
    let gate : c.deref.result.now ≡ shut_gate = c.deref.ensures.value ∙ c.in_ok-gate.ensures in
    emptied_now step c.args.disk.now new c.args.image.now mid c.in_ok-place.ensures
    (subst (λ (b : List ℕ). AsksFor step mid (through_events 0 b true true) new) gate
    (through step mid new 0 c.deref.result.now w.written w.synced w.answer w.asked))
