use Rattle.std.proofs.Common.{◌≡◌, ◌⊎◌, inl, inr, ◌≤◌, ◌^◌, ◌+◌, List, ℕ, length, refl, ◌∙◌, subst, true}
use Rattle.std.proofs.lemmas.Result.{err_from_is_err_and}
use Rattle.segment_log.specs.Committing.{AsksFor}
use Rattle.segment_log.specs.Laws.{through_events}
use Rattle.segment_log.specs.Records.{open_gate, record_body}
use Rattle.segment_log.specs.declared.committing.CommitError.TheVariants.{OutOfMemory, TooLong}
use Rattle.segment_log.proofs.committing.Ended.{refused, body_failed, gate_failed, gate_opened, through}
use Rattle.segment_log.proofs.committing.commit.Goals as goal
use Rattle.segment_log.proofs.committing.commit.Goals.{then-end-ge-MAX_LOG_LEN-via-then-end-ge-MAX_LOG_LEN}
use Rattle.segment_log.proofs.committing.commit.Goals.{then-end-ge-MAX_LOG_LEN-via-else-end-ge-MAX_LOG_LEN+then-payload-ge-MAX_LOG_LEN}

pub returns-then-end-ge-MAX_LOG_LEN : goal.returns-then-end-ge-MAX_LOG_LEN
returns-then-end-ge-MAX_LOG_LEN g c =
    let long : (2 ^ 40 ≤ c.args.end) ⊎ (2 ^ 40 ≤ length c.args.payload.now) = elim c.then-end-ge-MAX_LOG_LEN.branch [
      | then-end-ge-MAX_LOG_LEN-via-then-end-ge-MAX_LOG_LEN w ↦ inl w.if-end-ge-MAX_LOG_LEN.true
      | then-end-ge-MAX_LOG_LEN-via-else-end-ge-MAX_LOG_LEN+then-payload-ge-MAX_LOG_LEN w ↦
          inr w.if-payload-ge-MAX_LOG_LEN.true
    ] in
    refused g.D.LogDisk.log_step c.args.disk.now c.args.disk.now c.args.end c.args.payload.now TooLong refl (λ _. long)
    (λ is. absurd (cc is))

pub returns-in_err-body : goal.returns-in_err-body
returns-in_err-body g c =
    let p = err_from_is_err_and c.from_residual.result c.from_residual.ensures.1 in
    rw (p.1, p.2) (refused g.D.LogDisk.log_step c.args.disk.now c.args.disk.now c.args.end c.args.payload.now
    OutOfMemory refl (λ is. absurd (cc is)) (λ is. absurd (cc is)))

pub returns-in_err-gate : goal.returns-in_err-gate
returns-in_err-gate g c =
    let from = c.from_residual-in_err-gate in
    let p = err_from_is_err_and from.result from.ensures.1 in
    rw (p.1, p.2) (refused g.D.LogDisk.log_step c.args.disk.now c.args.disk.now c.args.end c.args.payload.now
    OutOfMemory refl (λ is. absurd (cc is)) (λ is. absurd (cc is)))

pub returns-in_err-write_through : goal.returns-in_err-write_through
returns-in_err-write_through g c =
    let step = g.D.LogDisk.log_step in
    let from = c.from_residual-in_err-write_through in
    let p = err_from_is_err_and from.result from.ensures.1 in
    let w = c.in_err-write_through.ensures in
    let is : c.deref.result.now ≡ record_body c.args.payload.now = c.deref.ensures.value ∙ c.in_ok-body.ensures in
    rw (p.1, p.2) (body_failed step c.args.disk.now c.write_through.new.disk c.args.end c.args.payload.now
    w.written w.synced w.answer
    (subst (λ (b : List ℕ). AsksFor step c.args.disk.now (through_events (c.args.end + 4096) b w.written w.synced)
    c.write_through.new.disk) is w.asked))

pub returns-in_err-write_through-2 : goal.returns-in_err-write_through-2
returns-in_err-write_through-2 g c =
    let step = g.D.LogDisk.log_step in
    let from = c.from_residual-in_err-write_through-2 in
    let p = err_from_is_err_and from.result from.ensures.1 in
    let first = c.in_ok-write_through.ensures in
    let w = c.in_err-write_through-2.ensures in
    let mid = c.write_through.new.disk in
    let new = c.write_through-2.new.disk in
    let is : c.deref.result.now ≡ record_body c.args.payload.now = c.deref.ensures.value ∙ c.in_ok-body.ensures in
    let gate : c.deref-2.result.now ≡ open_gate = c.deref-2.ensures.value ∙ c.in_ok-gate.ensures in
    rw (p.1, p.2) (gate_failed step c.args.disk.now new c.args.end c.args.payload.now mid
    (subst (λ (b : List ℕ). AsksFor step c.args.disk.now (through_events (c.args.end + 4096) b true true) mid) is
    (through step c.args.disk.now mid (c.args.end + 4096) c.deref.result.now first.written first.synced first.answer
    first.asked))
    w.written w.synced w.answer
    (subst (λ (b : List ℕ). AsksFor step mid (through_events c.args.end b w.written w.synced) new) gate w.asked))

pub returns : goal.returns
returns g c =
    let step = g.D.LogDisk.log_step in
    let first = c.in_ok-write_through.ensures in
    let second = c.in_ok-write_through-2.ensures in
    let mid = c.write_through.new.disk in
    let new = c.write_through-2.new.disk in
    let is : c.deref.result.now ≡ record_body c.args.payload.now = c.deref.ensures.value ∙ c.in_ok-body.ensures in
    let gate : c.deref-2.result.now ≡ open_gate = c.deref-2.ensures.value ∙ c.in_ok-gate.ensures in
    gate_opened step c.args.disk.now new c.args.end c.args.payload.now mid
    (subst (λ (b : List ℕ). AsksFor step c.args.disk.now (through_events (c.args.end + 4096) b true true) mid) is
    (through step c.args.disk.now mid (c.args.end + 4096) c.deref.result.now first.written first.synced first.answer
    first.asked))
    (subst (λ (b : List ℕ). AsksFor step mid (through_events c.args.end b true true) new) gate
    (through step mid new c.args.end c.deref-2.result.now second.written second.synced second.answer second.asked))
