-- A whole image at its place in a region: its first 24 bytes are written, and the others are read after them.
use Rattle.image_check.proofs.Common.{HasFront, IsHandedBack, IsImageRead, IsNotRead, List, OpenError, SameSurroundings}
use Rattle.image_check.proofs.Common.{Stops, WindowState, added, ap, arith, both_added, drop, false, le-ltb, legal_size}
use Rattle.image_check.proofs.Common.{length, length-drop, length-take, nat_lt, part, patched, subst, sym, take, true}
use Rattle.image_check.proofs.Common.{ℕ, ◌++◌, ◌+◌, ◌-◌, ◌∙◌, ◌≡◌, ◌≤◌}
use Rattle.std.proofs.Common.{Bool}
use Rattle.std.proofs.lemmas.List.{length-append, take_at}
use Rattle.raw_region.specs.Device.{AppendsBytes}
use Rattle.raw_region.specs.Memory.{cut_at, whole}
use Rattle.raw_region.specs.Regions.{with_bytes}
use Rattle.raw_region.proofs.Laws.{length-part}
use Rattle.image_check.specs.Reading.{ReadsFrontOk}
use Rattle.image_check.proofs.reading.Fronts.{IsRight, IsRight-append, IsRight-has_front, has_front-IsRight}
use Rattle.image_check.proofs.opening.Region.{written-back}
use Rattle.image_check.proofs.reading.Stops.{read_since}

-- the window of a region for the size in the first 24 bytes, which are at its front
pub record IsBegun (format : ℕ) (old mid front region : List ℕ) (base size : ℕ) (w : WindowState) : Type 0 where
  pub front_read : ReadsFrontOk format old mid front base (length region) size
  pub is : w ≡ with_bytes (cut_at region base size) (patched (part region base size) 0 front)

module _ (format : ℕ) (old mid front region : List ℕ) (base size : ℕ) (w : WindowState)
    (b : IsBegun format old mid front region base size w) where
  rest : List ℕ
  rest = drop (0 + length front) (part region base size)

  bytes_are : w.bytes ≡ front ++ rest
  unfolding rest
  bytes_are = ap (λ (c : WindowState). c.bytes) b.is

  pub begun-take : take 24 w.bytes ≡ front
  begun-take = ap (take 24) bytes_are ∙ take_at front rest 24 b.front_read.long

  front_right : IsRight format front size
  front_right = let long = b.front_read.long
      in has_front-IsRight format front size (omega arith) b.front_read.right (sym b.front_read.says)

  bytes_right : IsRight format w.bytes size
  bytes_right = subst (λ x. IsRight format x size) (sym bytes_are) (IsRight-append format front rest size front_right)

  -- the reader returned the first 24 bytes of the window
  pub begun-start : mid ≡ old ++ take 24 w.bytes
  begun-start = b.front_read.read ∙ ap (λ x. old ++ x) (sym begun-take)

  pub begun-length : length w.bytes ≡ size
  unfolding rest
  begun-length =
      let room = b.front_read.room in
      let long = b.front_read.long in
      let least = (legal_size size front_right.legal).low in
      let all = length-part region base size room in
      let both = length-append front (drop (0 + length front) (part region base size)) in
      let cut = length-drop (0 + length front) (part region base size) in
      ap length bytes_are ∙ (omega arith)

  -- an image whose first bytes are written has a right front
  pub begun-HasFront : HasFront format w
  begun-HasFront = record {
    right = IsRight-has_front format w.bytes size bytes_right;
    says = bytes_right.says ∙ sym begun-length;
  }

  pub begun-base : length w.before ≡ base
  begun-base =
      let room = b.front_read.room in
      let cut = length-take base region in
      ap (λ (c : WindowState). length c.before) b.is ∙ (omega arith)

  pub begun-whole : length (whole w) ≡ length region
  begun-whole =
      let room = b.front_read.room in
      let front_len = begun-length in
      let before_len = begun-base in
      let after_len : length w.after ≡ length region - (base + size) =
      ap (λ (c : WindowState). length c.after) b.is ∙ length-drop (base + size) region in
      let c = length-append (w.before ++ w.bytes) w.after in
      let d = length-append w.before w.bytes in
      omega arith

  -- the region is returned after only the window was written
  begun-back : (new : List ℕ) (ended : Bool) (f h : ℕ) (v : WindowState) (back : List ℕ) → AppendsBytes mid new
      → SameSurroundings w v
      → length v.bytes ≡ length w.bytes → back ≡ whole v
      → IsHandedBack format (read_since old new ended f h) region base back
  begun-back new ended f h v back grows p l e =
      let more : List ℕ = drop (length mid) new in
      let said : drop (length old) new ≡ front ++ more =
      added old new (front ++ more) (both_added old mid new front more b.front_read.read grows) in
      let right : IsRight format (drop (length old) new) size =
      subst (λ x. IsRight format x size) (sym said) (IsRight-append format front more size front_right) in
      let long = b.front_read.long in
      let both = ap length said ∙ length-append front more in
      written-back region base size v
      (record {
        room = b.front_read.room;
        place = record {
          before = p.before ∙ ap (λ (c : WindowState). c.before) b.is;
          after = p.after ∙ ap (λ (c : WindowState). c.after) b.is;
        };
        long = l ∙ begun-length;
      })
      format (read_since old new ended f h) back
      (record {
        read = omega arith;
        front = IsRight-has_front format (drop (length old) new) size right;
        room = subst (λ n. base + n ≤ length region) (sym right.says) b.front_read.room;
      })
      right.says e

  -- no reading fails where no count rises
  none_failed : (f g h : ℕ) → g ≡ f + 0 → h ≡ g + 0 → nat_lt f h ≡ false
  none_failed f g h d e = le-ltb f h (omega arith)

  -- the rest is read too
  pub begun-read : (new : List ℕ) (ended : Bool) (f g h : ℕ) (v : WindowState) → AppendsBytes mid new → g ≡ f + 0
      → h ≡ g + 0 → ended ≡ true
      → v ≡ with_bytes w (take 24 w.bytes ++ drop (length mid) new) → length v.bytes ≡ length w.bytes
      → IsImageRead format (read_since old new ended f h) region base v
  begun-read new ended f g h v grows d e i s l =
      let more : List ℕ = drop (length mid) new in
      let said : drop (length old) new ≡ front ++ more =
      added old new (front ++ more) (both_added old mid new front more b.front_read.read grows) in
      let bytes : v.bytes ≡ front ++ more = ap (λ (c : WindowState). c.bytes) s ∙ ap (λ x. x ++ more) begun-take in
      let before : v.before ≡ w.before = ap (λ (c : WindowState). c.before) s in
      let after : v.after ≡ w.after = ap (λ (c : WindowState). c.after) s in
      let was = length-append (w.before ++ w.bytes) w.after in
      let was_front = length-append w.before w.bytes in
      let now = length-append (v.before ++ v.bytes) v.after in
      let now_front = length-append v.before v.bytes in
      let same_before = ap length before in
      let same_after = ap length after in
      let long : length v.bytes ≡ size = l ∙ begun-length in
      let all : length (drop (length old) new) ≡ size = ap length (said ∙ sym bytes) ∙ long in
      let room = b.front_read.room in
      let right : IsRight format v.bytes size =
      subst (λ x. IsRight format x size) (sym bytes) (IsRight-append format front more size front_right) in
      record {
        read = record { ended = i; failed = none_failed f g h d e };
        bytes = bytes ∙ sym said;
        place = record {
          before = before ∙ ap (λ (c : WindowState). c.before) b.is;
          after = after ∙ ap (λ (c : WindowState). c.after) b.is ∙ ap (λ n. drop (base + n) region) (sym all);
        };
        room = omega arith;
        capacity = let kept : length (whole v) ≡ length (whole w) = omega arith in kept ∙ begun-whole;
        front = record { right = IsRight-has_front format v.bytes size right; says = right.says ∙ sym long };
      }

  -- or is not
  pub begun-stops : (new : List ℕ) (ended : Bool) (f g h : ℕ) (v : WindowState) (back : List ℕ) (cause : OpenError)
      → AppendsBytes mid new
      → g ≡ f + 0 → back ≡ whole v → SameSurroundings w v → length v.bytes ≡ length w.bytes
      → ((start : List ℕ) → mid ≡ start ++ take 24 w.bytes
      → Stops format (read_since start new ended g h) (length w.before) (length (whole w)) cause)
      → IsNotRead format (read_since old new ended f h) region base (record { region = back; cause = cause })
  begun-stops new ended f g h v back cause grows d e p l s =
      let same : g ≡ f = omega arith in
      let stops = s old begun-start in
      record {
        stops = subst (λ k. Stops format (read_since old new ended k h) base (length region) cause) same
            (subst (λ k. Stops format (read_since old new ended g h) base k cause) begun-whole
            (subst (λ k. Stops format (read_since old new ended g h) k (length (whole w)) cause) begun-base stops));
        handed_back = begun-back new ended f h v back grows p l e;
      }
