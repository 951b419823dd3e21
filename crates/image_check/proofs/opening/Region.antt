-- A region that is returned after only its window was written.
use Rattle.image_check.proofs.Common.{IsHandedBack, List, ReadDelta, SameSurroundings, WindowState, ap, arith, drop}
use Rattle.image_check.proofs.Common.{length, length-drop, length-take-le, size_word, sym, take, ℕ, ◌++◌, ◌+◌, ◌∙◌, ◌≡◌}
use Rattle.image_check.proofs.Common.{◌≤◌}
use Rattle.std.proofs.lemmas.List.{append_assoc, drop_at, length-append, take_at}
use Rattle.raw_region.specs.Memory.{cut_at, whole}
use Rattle.image_check.specs.Opening.{HasRoomForImage}

-- if a window's place and bytes stay, the region stays
pub whole-kept : (old new : WindowState) → SameSurroundings old new → new.bytes ≡ old.bytes → whole new ≡ whole old
whole-kept old new place bytes = let before = place.before in let after = place.after in cc

-- a window of the region of which only the bytes can differ
pub record IsWritten (region : List ℕ) (base size : ℕ) (w : WindowState) : Type 0 where
  pub room : base + size ≤ length region
  pub place : SameSurroundings (cut_at region base size) w
  pub long : length w.bytes ≡ size

module _ (region : List ℕ) (base size : ℕ) (w : WindowState) (h : IsWritten region base size w) where
  base-long : length w.before ≡ base
  base-long = let room = h.room in ap length h.place.before ∙ length-take-le base region (omega arith)

  front-long : length (w.before ++ w.bytes) ≡ base + size
  front-long = let a = base-long in let b = h.long in length-append w.before w.bytes ∙ (omega arith)

  pub written-capacity : length (whole w) ≡ length region
  written-capacity =
      let a = front-long in
      let b = ap length h.place.after ∙ length-drop (base + size) region in
      let room = h.room in
      length-append (w.before ++ w.bytes) w.after ∙ (omega arith)

  written-before : take base (whole w) ≡ take base region
  written-before =
      ap (take base) (append_assoc w.before w.bytes w.after) ∙ take_at w.before (w.bytes ++ w.after) base base-long
      ∙ h.place.before

  written-behind : drop (base + size) (whole w) ≡ drop (base + size) region
  written-behind = drop_at (w.before ++ w.bytes) w.after (base + size) front-long ∙ h.place.after

  -- the region that is returned contains the bytes that were read
  pub written-back : (format : ℕ) (image : ReadDelta) (back : List ℕ)
      → HasRoomForImage format image base (length region)
      → size_word image.bytes ≡ size → back ≡ whole w → IsHandedBack format image region base back
  written-back format image back p e f = record {
    capacity = ap length f ∙ written-capacity;
    before = ap (take base) f ∙ written-before;
    behind = ap (λ n. drop (base + n) back) e ∙ ap (drop (base + size)) f ∙ written-behind
        ∙ ap (λ n. drop (base + n) region) (sym e);
    untouched = λ none. absurd (none p);
  }
