use Rattle.std.proofs.Common.{◌≡◌, List, ℕ, refl, ◌∙◌, subst, true}
use Rattle.std.proofs.lemmas.Result.{err_from_is_err_and}
use Rattle.segment_log.specs.Committing.{AsksFor}
use Rattle.segment_log.specs.Laws.{through_events}
use Rattle.segment_log.specs.Records.{shut_gate}
use Rattle.segment_log.proofs.committing.Ended.{not_shut, half_shut, shut_now, through}
use Rattle.segment_log.proofs.committing.shut.Goals as goal

pub returns-in_err-closed : goal.returns-in_err-closed
returns-in_err-closed g c =
    let p = err_from_is_err_and c.from_residual.result c.from_residual.ensures.1 in
    rw (p.1, p.2) (not_shut g.D.LogDisk.log_step c.args.disk.now c.args.disk.now c.args.end refl)

pub returns-in_err-write_through : goal.returns-in_err-write_through
returns-in_err-write_through g c =
    let step = g.D.LogDisk.log_step in
    let from = c.from_residual-in_err-write_through in
    let p = err_from_is_err_and from.result from.ensures.1 in
    let w = c.in_err-write_through.ensures in
    let new = c.write_through.new.disk in
    let gate : c.deref.result.now ≡ shut_gate = c.deref.ensures.value ∙ c.in_ok-closed.ensures in
    rw (p.1, p.2) (half_shut step c.args.disk.now new c.args.end w.written w.synced w.answer
    (subst (λ (b : List ℕ). AsksFor step c.args.disk.now (through_events c.args.end b w.written w.synced) new) gate
    w.asked))

pub returns : goal.returns
returns g c =
    let step = g.D.LogDisk.log_step in
    let w = c.in_ok-write_through.ensures in
    let new = c.write_through.new.disk in
    let gate : c.deref.result.now ≡ shut_gate = c.deref.ensures.value ∙ c.in_ok-closed.ensures in
    shut_now step c.args.disk.now new c.args.end
    (subst (λ (b : List ℕ). AsksFor step c.args.disk.now (through_events c.args.end b true true) new) gate
    (through step c.args.disk.now new c.args.end c.deref.result.now w.written w.synced w.answer w.asked))
