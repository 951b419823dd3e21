use Rattle.std.proofs.Common.{◌≢◌, ◌<◌, ◌^◌, length, refl, sym, ◌∙◌, arith}
use Rattle.std.proofs.lemmas.Result.{err_from_is_err_and}
use Rattle.std.proofs.lemmas.Slice.Eq.{bytes_eq-Decides}
use Rattle.segment_log.proofs.committed_image.Kept.{unchanged, refused, failed, done}
use Rattle.segment_log.proofs.committed_image.CommittedImage.commit.Goals as goal

pub returns-then-eq : goal.returns-then-eq
returns-then-eq g c =
    unchanged g.D.LogDisk.log_step c.args.disk.now c.args.self.now c.args.image.now
    (sym c.as_slice.ensures.value ∙ (bytes_eq-Decides _ _).0 (sym c.if-eq.ensures))

pub returns-in_err-payload : goal.returns-in_err-payload
returns-in_err-payload g c =
    let p = err_from_is_err_and c.from_residual.result c.from_residual.ensures.1 in
    rw (p.1, p.2) (refused g.D.LogDisk.log_step c.args.disk.now c.args.self.now c.args.image.now)

pub returns-in_err-kept : goal.returns-in_err-kept
returns-in_err-kept g c =
    let from = c.from_residual-in_err-kept in
    let p = err_from_is_err_and from.result from.ensures.1 in
    rw (p.1, p.2) (refused g.D.LogDisk.log_step c.args.disk.now c.args.self.now c.args.image.now)

pub returns-in_err-self : goal.returns-in_err-self
returns-in_err-self g c =
    let from = c.from_residual-in_err-self in
    let p = err_from_is_err_and from.result from.ensures.1 in
    let unlike : c.as_slice.result.now ≢ c.args.image.now = λ is.
    absurd (cc (c.if-eq.ensures, (bytes_eq-Decides c.as_slice.result.now c.args.image.now).1 is)) in
    let changed : c.args.self.now.image.items ≢ c.args.image.now = λ is. unlike (c.as_slice.ensures.value ∙ is) in
    let small : length c.deref-2.result.now < 256 ^ 8 = omega arith in
    rw (p.1, p.2) (failed g.D.LogDisk.log_step c.args.disk.now c.commit.new.disk c.args.self.now c.args.image.now
    c.deref-2.result.now c.in_ok-payload.payload.items c.deref.result.now c.deref-2.ensures.value
    c.deref.ensures.value changed c.in_ok-payload.ensures.changes c.in_ok-payload.ensures.base
    c.in_ok-payload.ensures.after small c.in_ok-payload.ensures.max_len _ c.in_err-self.ensures)

pub returns : goal.returns
returns g c =
    let unlike : c.as_slice.result.now ≢ c.args.image.now = λ is.
    absurd (cc (c.if-eq.ensures, (bytes_eq-Decides c.as_slice.result.now c.args.image.now).1 is)) in
    let changed : c.args.self.now.image.items ≢ c.args.image.now = λ is. unlike (c.as_slice.ensures.value ∙ is) in
    let small : length c.deref-2.result.now < 256 ^ 8 = omega arith in
    done g.D.LogDisk.log_step c.args.disk.now c.commit.new.disk c.args.self.now c.args.image.now
    c.deref-2.result.now c.in_ok-payload.payload.items c.deref.result.now c.deref-2.ensures.value
    c.deref.ensures.value changed c.in_ok-payload.ensures.changes c.in_ok-payload.ensures.base
    c.in_ok-payload.ensures.after small c.in_ok-payload.ensures.max_len _ c.in_ok-self.ensures _
    c.in_ok-kept.ensures refl refl
