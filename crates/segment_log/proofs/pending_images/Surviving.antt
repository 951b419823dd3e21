-- What an opener takes at each moment of a save in place.
use Rattle.std.proofs.Common.{◌≡◌, ⊎_elim, inl, inr, ℕ, ◌+◌, ◌-◌, ◌<◌, List, length, take, drop, refl}
use Rattle.std.proofs.Common.{sym, ◌∙◌, ap, subst, arith}
use Rattle.std.proofs.lemmas.Bool.Decides.{leb_tells}
use Rattle.std.proofs.lemmas.List.{drop-take, length-take-le, take-append-le, take-take, take_all}
use Rattle.segment_log.specs.Fingerprints.{fingerprint}
use Rattle.segment_log.specs.PendingImages.{Completes, IsFirstPartOf, SavesSurvive}
use Rattle.segment_log.specs.PendingImages.{pending_tail, pending_text}
use Rattle.segment_log.proofs.pending_images.Wholes.{behind_head, image_of_pending, length-pending, pending_inj}

-- a pending file that is cut short has a part of the image at most
part_of_image : (image found : List ℕ) (k : ℕ) → k < length (pending_text image)
    → take k (pending_text image) ≡ pending_text found
    → (take (length found) image ≡ found) × (length found < length image)
part_of_image image found k short is =
    let m : ℕ = length found in
    let tail : List ℕ = pending_tail (length image) (fingerprint image) in
    let size : k ≡ 32 + m =
    sym (length-take-le k (pending_text image) (omega (arith, short))) ∙ ap length is ∙ length-pending found in
    let less : m < length image = omega (arith, size, short, length-pending image) in
    let split : 16 + (k - 16) ≡ k = omega (arith, size) in
    let cut : take m (drop 16 (take k (pending_text image))) ≡ take m image =
    ap (λ (n : ℕ). take m (drop 16 (take n (pending_text image)))) (sym split)
    ∙ ap (λ (l : List ℕ). take m l) (drop-take 16 (k - 16) (pending_text image))
    ∙ take-take m (k - 16) (drop 16 (pending_text image)) (omega (arith, size))
    ∙ ap (λ (l : List ℕ). take m l) (behind_head image) ∙ take-append-le m image tail (omega (arith, less)) in
    (sym cut ∙ ap (λ (l : List ℕ). take m (drop 16 l)) is ∙ image_of_pending found m refl, less)

-- what is a part of a part of the image, cut short
longer : (old found image : List ℕ) → IsFirstPartOf old found → take (length found) image ≡ found
    → length found < length image → IsFirstPartOf old image
longer old found image prefix part less = record {
  bytes =
      sym (take-take (length old) (length found) image (omega (arith, prefix.shorter)))
      ∙ ap (λ (l : List ℕ). take (length old) l) part ∙ prefix.bytes;
  shorter = omega (arith, prefix.shorter, less);
}

-- the file is completed while it is shorter than the image
cut_short : (image : List ℕ) (n : ℕ) → n < length image → Completes (pending_text image) (take n image) image
cut_short image n less =
    let len : length (take n image) ≡ n = length-take-le n image (omega (arith, less)) in
    record {
      whole = refl;
      prefix =
          record { bytes = ap (λ (k : ℕ). take k image) len; shorter = omega (arith, len, less) };
    }

-- the law of saves in place
pub saves_survive : SavesSurvive
saves_survive old image = record {
  pending = λ k found short taken. ⊎_elim
      (λ completed. let part = part_of_image image found k short completed.whole in
      inr (longer old found image completed.prefix part.0 part.1))
      (λ kept. inl kept.1) taken;
  before = λ found taken. ⊎_elim
      (λ completed. let same : found ≡ image = sym (pending_inj image found completed.whole) in
      inr (same, subst (λ (l : List ℕ). IsFirstPartOf old l) same completed.prefix))
      (λ kept. inl kept.1) taken;
  during = λ n found taken. ⊎_elim
      (λ completed. sym (pending_inj image found completed.whole))
      (λ kept. ⊎_elim
      (λ all. kept.1 ∙ take_all n image all.1)
      (λ less. absurd (kept.0 image (cut_short image n less.1)))
      (leb_tells (length image) n)) taken;
}
