use Rattle.std.proofs.Common.{refl, ap, ◌∙◌, arith}
use Rattle.std.proofs.lemmas.Result.{err_from_is_err_and}
use Rattle.segment_log.specs.Fingerprints.{fingerprint}
use Rattle.segment_log.proofs.committed_image.Kept.{nothing_to_place, not_placed, placed}
use Rattle.segment_log.proofs.committed_image.CommittedImage.checkpoint.Goals as goal

pub returns-in_err-checkpoint : goal.returns-in_err-checkpoint
returns-in_err-checkpoint g c =
    let p = err_from_is_err_and c.from_residual.result c.from_residual.ensures.1 in
    rw (p.1, p.2) (not_placed g.D.LogDisk.log_step c.args.disk.now c.checkpoint.new.disk c.args.self.now
    c.if-self-gt0.true c.deref.result.now c.deref.ensures.value _ c.in_err-checkpoint.ensures)

pub returns-in_ok-checkpoint : goal.returns-in_ok-checkpoint
returns-in_ok-checkpoint g c =
    placed g.D.LogDisk.log_step c.args.disk.now c.checkpoint.new.disk c.args.self.now c.if-self-gt0.true
    c.deref.result.now c.deref.ensures.value c.in_ok-checkpoint.ensures _ refl refl
    (c.fingerprint-self.ensures ∙ ap fingerprint c.deref-then-self-gt0.ensures.value)

pub returns-else-self-gt0 : goal.returns-else-self-gt0
returns-else-self-gt0 g c =
    nothing_to_place g.D.LogDisk.log_step c.args.disk.now c.args.self.now (omega (arith, c.if-self-gt0.false))
