use Rattle.std.proofs.Common.{◌≡◌, List, ℕ, length, take, ap, sym, ◌∙◌, arith}
use Rattle.segment_log.proofs.pending_images.Wholes.{pending_inj}
use Rattle.segment_log.proofs.pending_images.completes.Goals as goal
use Rattle.segment_log.proofs.pending_images.completes.Goals.{then-file-image-via-then-file-image}
use Rattle.segment_log.proofs.pending_images.completes.Goals.{then-file-image-via-else-file-image+then-not-are_same}

pub returns-then-file-image : goal.returns-then-file-image
returns-then-file-image c = λ image is.
    let same : c.in_ok-image.image.now ≡ image =
    pending_inj c.in_ok-image.image.now image (sym c.in_ok-image.ensures ∙ is.whole) in
    elim c.then-file-image.branch [
      | then-file-image-via-then-file-image w ↦
          absurd (omega (arith, w.if-file-image.true, is.prefix.shorter, ap length same))
      | then-file-image-via-else-file-image+then-not-are_same w ↦
          let bytes = ap (λ (l : List ℕ). take (length c.args.file.now) l) same ∙ is.prefix.bytes in
          absurd (cc (w.are_same.ensures.1 bytes, w.if-not-are_same.true))
    ]
