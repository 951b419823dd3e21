use Rattle.std.proofs.Common.{◌≡◌, ℕ, List, length, take, ap, sym, ◌∙◌, arith}
use Rattle.segment_log.specs.Fingerprints.{fingerprint}
use Rattle.segment_log.specs.PendingImages.{pending_head, pending_tail}
use Rattle.segment_log.proofs.pending_images.Wholes.{head_of_pending, length-pending, middle, tail_told, whole_by_ends}
use Rattle.segment_log.proofs.pending_images.pending_image.Goals as goal
use Rattle.segment_log.proofs.pending_images.pending_image.Goals.{then-bytes-lt32-via-then-bytes-lt32}
use Rattle.segment_log.proofs.pending_images.pending_image.Goals.{then-bytes-lt32-via-else-bytes-lt32+then-not-are_same}

pub returns-then-bytes-lt32 : goal.returns-then-bytes-lt32
returns-then-bytes-lt32 c = λ image is. elim c.then-bytes-lt32.branch [
  | then-bytes-lt32-via-then-bytes-lt32 w ↦
      absurd (omega (arith, w.if-bytes-lt32.true, ap length is, length-pending image))
  | then-bytes-lt32-via-else-bytes-lt32+then-not-are_same w ↦
      let head : take 16 c.args.bytes.now ≡ pending_head =
      ap (λ (l : List ℕ). take 16 l) is ∙ head_of_pending image in
      absurd (cc (w.are_same.ensures.1 head, w.if-not-are_same.true))
]

pub returns-then-not-are_same-2 : goal.returns-then-not-are_same-2
returns-then-not-are_same-2 c = λ image is.
    let tail : c.pending_tail-tail.result
    ≡ pending_tail (length (middle c.args.bytes.now)) (fingerprint (middle c.args.bytes.now)) =
    c.pending_tail-tail.ensures
    ∙ ap (λ (id : ℕ). pending_tail (length (middle c.args.bytes.now)) id) c.fingerprint.ensures in
    absurd
    (cc (c.are_same-2.ensures.1 (tail_told c.args.bytes.now image is ∙ sym tail), c.if-not-are_same-2.true))

pub returns : goal.returns
returns c =
    let tail : c.pending_tail-tail.result
    ≡ pending_tail (length (middle c.args.bytes.now)) (fingerprint (middle c.args.bytes.now)) =
    c.pending_tail-tail.ensures
    ∙ ap (λ (id : ℕ). pending_tail (length (middle c.args.bytes.now)) id) c.fingerprint.ensures in
    whole_by_ends c.args.bytes.now c.pending_tail-tail.result c.if-bytes-lt32.false
    (c.are_same.ensures.0 c.if-not-are_same.false) (c.are_same-2.ensures.0 c.if-not-are_same-2.false) tail
