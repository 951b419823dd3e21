-- What the first bytes of an image say of its size, and which codes answer an image that is not opened.
use Rattle.std.proofs.Common.{◌≡◌, ◌≤◌, inl, inr, ℕ, Bool, true, false, ◌&&◌, ◌<◌, List, [], ◌∷◌, Some, refl}
use Rattle.std.proofs.Common.{ap, length, subst, sym, IsTrue, arith}
use Rattle.std.specs.Prelude.{nat_le, nat_lt, find, min, if◌then◌else◌}
use Rattle.std.proofs.lemmas.Bool.{and_from, and_parts, cond-true, false≢true, le-leb, lt-ltb, or_right}
use Rattle.raw_region.specs.Format.{current}
use Rattle.block_tags.specs.Format.{is_legal_size}
use Rattle.image_check.specs.declared.errors.OpenError.{OpenError}
use Rattle.image_check.specs.{Causes.IsShown, Classes.class_of, Classes.holds, Verdicts.Shows}
use Rattle.image_check.specs.Opening.{IsOpenCause, IsTooSmallFor, IsUndecided, as_given}
use Rattle.image_check.proofs.Facts.{refused-class}
use Rattle.image_check.specs.declared.classes.ImageClass.TheVariants.{Truncated, BadMagic, UnsupportedVersion, BadSize}
use Rattle.image_check.specs.declared.classes.ImageClass.TheVariants.{BadReserved, BadTag, BadFreeTree, BadIndex}
use Rattle.image_check.specs.declared.classes.ImageClass.TheVariants.{BadObject, SharedBlock, BadContainer, OrphanBlock}
use Rattle.image_check.specs.declared.errors.OpenError.TheVariants.{Image, RegionTooSmall, OutOfMemory, ReadFault}
use Rattle.image_check.specs.EarlyTests.{has_front, has_magic, has_version, size_word}
use Rattle.segment_c.specs.Opening.{IsNoImage, IsPlaced, IsTooLongForRegion, IsWhyNotOpened, size_said}
use Rattle.segment_c.specs.Opening.{code_of_cause, place_of_cause}

-- ---- the size

-- a front says its size word
said_front : (image : List ℕ) → 24 ≤ length image → IsTrue (has_front current image) → size_said image ≡ size_word image
said_front image l f = ap (λ (e : Bool).
    if e then size_word image else 0)
    (and_from (nat_le 24 (length image)) (has_front current image) (le-leb 24 (length image) l) f)

-- and one that a segment has
legal_most : (n : ℕ) → IsTrue (is_legal_size n) → n ≤ 1073741824
legal_most n l = grind arith

cut_by : (c : Bool) (n k : ℕ) → k < (if c then n else 0) → (c ≡ true) × (k < n)
cut_by true n k l = (refl, l)
cut_by false n k l = absurd (omega arith)

-- fewer bytes than they say
pub said_more : (image : List ℕ) → length image < size_said image → class_of current image ≡ Some Truncated
said_more image l =
    let parts = cut_by (nat_le 24 (length image) && has_front current image) (size_word image) (length image) l in
    let front = (and_parts (nat_le 24 (length image)) (has_front current image) parts.0).1 in
    let cut = and_from (has_front current image) (nat_lt (length image) (size_word image)) front
    (lt-ltb (length image) (size_word image) parts.1) in
    cond-true (holds current image Truncated) (Some Truncated)
    (find (holds current image) (BadMagic ∷ UnsupportedVersion ∷ BadSize ∷ BadReserved ∷ BadTag ∷ BadFreeTree
    ∷ BadIndex ∷ BadObject ∷ SharedBlock ∷ BadContainer ∷ OrphanBlock ∷ []))
    (or_right (nat_lt (length image) 144) (has_front current image && nat_lt (length image) (size_word image)) cut)

-- ---- the codes

-- for a class the place shows it, and for any other code it stays
pub placed_why : (image : List ℕ) (cause : OpenError) (old code new : ℕ) → code ≡ code_of_cause cause
    → new ≡ place_of_cause cause old → IsShown current image cause → IsPlaced image code old new
placed_why image (Image v) old code new e p shown =
    inr (v.class, e, subst (λ (n : ℕ). Shows current image v.class n) (sym p) shown)
placed_why image RegionTooSmall old code new e p shown = inl (omega (arith, e), p)
placed_why image (OutOfMemory refusal) old code new e p shown = inl (omega (arith, e), p)
placed_why image ReadFault old code new e p shown = inl (omega (arith, e), p)

-- bytes that are there are read
given_read : (image : List ℕ) → IsUndecided current (as_given image) → ⊥
given_read image u = false≢true u.failed

module _ (image : List ℕ) (capacity : ℕ) where
  is_given : IsTooLongForRegion image capacity → IsTooSmallFor current (as_given image) 0 capacity
  is_given t = record { read = t.read; front = t.front; small = omega (arith, t.long) }

  -- the code says why
  pub why_refused : (cause : OpenError) → IsOpenCause current (as_given image) 0 capacity cause
      → (IsTooSmallFor current (as_given image) 0 capacity → cause ≡ RegionTooSmall)
      → (1 ≤ code_of_cause cause) × IsWhyNotOpened image capacity (code_of_cause cause)
  why_refused (Image v) why small = (
    omega arith,
    record {
      why = inr (inr (v.class, refl, refused-class current (as_given image) v.class why));
      too_long = λ t. absurd (other (small (is_given t)));
    },
  )
    where
      other : Image v ≡ RegionTooSmall → ⊥
      other wrong = cc
  why_refused RegionTooSmall why small = (
    omega arith,
    record {
      why = inr (inl (refl, record { read = why.read; front = why.front; long = omega (arith, why.small) }));
      too_long = λ t. inr refl;
    },
  )
  why_refused (OutOfMemory refusal) why small = (omega arith, record { why = inl refl; too_long = λ t. inl refl })
  why_refused ReadFault why small = absurd (given_read image why)

  -- a region with room for what they say
  has_room : min (size_said image) 1073741824 ≤ capacity → IsTooSmallFor current (as_given image) 0 capacity → ⊥
  has_room room t =
      let size = said_front image t.read t.front in
      let most = legal_most (size_word image)
      (and_parts (has_magic image && has_version current image) (is_legal_size (size_word image)) t.front).1 in
      let small = t.small in
      omega (arith, room, size, most, small)

  -- and it says a class, or that there was no memory, if the region has room for what they say
  pub why_examined : (cause : OpenError) → IsOpenCause current (as_given image) 0 capacity cause
      → min (size_said image) 1073741824 ≤ capacity → IsNoImage image (code_of_cause cause)
  why_examined (Image v) why room = inr (v.class, refl, refused-class current (as_given image) v.class why)
  why_examined RegionTooSmall why room = absurd (has_room room why)
  why_examined (OutOfMemory refusal) why room = inl refl
  why_examined ReadFault why room = absurd (given_read image why)
