-- An image that was read and is opened, or is refused, and why.
use Rattle.image_check.proofs.Common.{Err, IfErr, UpgradesFormat, OpenError, IsHandedBack, IsImage}
use Rattle.image_check.proofs.Common.{IsImageRead, IsNotRead, IsOpenCause, IsShown, IsTooSmallFor, IsTrue, IsWhyRefused}
use Rattle.image_check.proofs.Common.{List, Mode, Ok, OpenRefused, OpensWindow, ReadDelta, Result, SegmentState, Shows}
use Rattle.image_check.proofs.Common.{Some, WindowState, ap, arith, class_of, false, has_block}
use Rattle.image_check.proofs.Common.{has_early_class, has_front, inl, length, size_word, subst, sym}
use Rattle.image_check.proofs.Common.{ℕ, ◌+◌, ◌∙◌, ◌≡◌, ◌≤◌}
use Rattle.raw_region.specs.Memory.{whole}
use Rattle.image_check.specs.Opening.{Opens}
use Rattle.image_check.specs.Checking.{OpensWindowErr}
use Rattle.image_check.specs.declared.errors.OpenError.TheVariants.{Image, OutOfMemory, ReadFault, RegionTooSmall}
use Rattle.image_check.specs.Passes.{IsMapRefused}
use Rattle.image_check.proofs.reading.Buffer.{HasFront-IsRight, HasFront-least}
use Rattle.image_check.proofs.opening.Region.{written-back}

module _ (format : ℕ) (image : ReadDelta) (region : List ℕ) (base : ℕ) (w : WindowState)
    (h : IsImageRead format image region base w) where
  -- the region had room for the image
  no-room : IsTooSmallFor format image base (length region) → ⊥
  no-room t =
      let small = t.small in
      let room = h.room in
      let same = ap length h.bytes in
      let says : size_word image.bytes ≡ length w.bytes = sym (ap size_word h.bytes) ∙ h.front.says in
      omega arith

  why-not : (why : OpenError) → IsWhyRefused format w.bytes why
      → IsOpenCause format image base (length region) why
  why-not RegionTooSmall x = absurd x
  why-not ReadFault x = absurd x
  why-not (Image v) x = record {
    sound = h.read.failed;
    right = inl (h.read.ended, subst (λ (b : List ℕ). class_of format b ≡ Some v.class) h.bytes x.0);
  }
  why-not (OutOfMemory refusal) x = (
    record {
      read = h.read;
      early = subst (λ (b : List ℕ). has_early_class format b ≡ false) h.bytes x.0;
      used = subst (λ (b : List ℕ). IsTrue (has_block b)) h.bytes x.1;
    },
    subst (λ (b : List ℕ). IsMapRefused b refusal) h.bytes x.2,
  )

  -- the window alone was written
  pub back-from : (back : List ℕ) → back ≡ whole w → IsHandedBack format image region base back
  back-from back f =
      let right = HasFront-IsRight format w h.front in
      let least = HasFront-least format w h.front in
      let same = ap length h.bytes in
      let says : size_word image.bytes ≡ length image.bytes = sym (ap size_word h.bytes) ∙ h.front.says ∙ same in
      written-back region base (length image.bytes) w (record { room = h.room; place = h.place; long = same })
      format image back
      (record {
        read = omega arith;
        front = subst (λ (x : List ℕ). IsTrue (has_front format x)) h.bytes h.front.right;
        room = subst (λ n. base + n ≤ length region) (sym says) h.room;
      })
      says f

  -- the answer of an opening, from that of its window
  pub refused : (mode : Mode) (e : OpenRefused) → OpensWindowErr format w e
      → Opens format image region base mode (Err e)
  refused mode e o = record {
    answers = record {
      why = why-not e.cause o.why;
      handed_back = back-from e.region o.region;
    };
    too_small = λ t. absurd (no-room t);
  }

  -- The result of an opening, from the result for its window.
  pub opens : (mode : Mode) (r : Result SegmentState OpenRefused) → OpensWindow format w mode r
      → Opens format image region base mode r
  opens mode (Ok s) o = record {
    answers = record {
      read = h.read;
      mode = o.mode;
      place = record { before = o.place.before ∙ h.place.before; after = o.place.after ∙ h.place.after };
      denotes = subst (IsImage format) h.bytes o.image;
      renewed = subst (λ (b : List ℕ). UpgradesFormat format b s.cut.bytes) h.bytes o.upgrade;
    };
    too_small = λ t. absurd (no-room t);
  }
  opens mode (Err e) o = refused mode e o

  -- an offset that shows the class of the window shows the class of the bytes read
  shown-why : (why : OpenError) → IsWhyRefused format w.bytes why → IsShown format image.bytes why
  shown-why (Image v) x = subst (λ (b : List ℕ). Shows format b v.class v.place) h.bytes x.1
  shown-why (OutOfMemory refusal) x = tt
  shown-why other x = tt

  -- this holds for each result of the opening of the window
  pub shown : (mode : Mode) (r : Result SegmentState OpenRefused) → OpensWindow format w mode r
      → IfErr r (λ e. IsShown format image.bytes e.cause)
  shown mode (Ok s) o = tt
  shown mode (Err e) o = shown-why e.cause o.why

-- an image that was not read
pub unread-opens : (format : ℕ) (image : ReadDelta) (region : List ℕ) (base : ℕ) (mode : Mode)
    (refused : OpenRefused) → IsNotRead format image region base refused
    → Opens format image region base mode (Err refused)
unread-opens format image region base mode refused n =
    record { answers = record { why = n.stops.why; handed_back = n.handed_back }; too_small = n.stops.too_small }
