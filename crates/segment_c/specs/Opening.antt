-- Images that are opened: what the calls owe.
use Rattle.std.specs.Prelude.{◌≡◌, ◌<◌, ◌≤◌, ◌⊎◌, ℕ, ◌+◌, ◌%◌, ◌&&◌, ◌==◌, nat_le, List, length, Some, IsTrue}
use Rattle.std.specs.Prelude.{false, if◌then◌else◌}
use Rattle.raw_region.specs.{Format.current, Memory.SameSurroundings, Memory.cut_at, Memory.zeros}
use Rattle.segment_manager.specs.{declared.modes.Mode.Mode, State.IsSegment, State.SegmentState}
use Rattle.image_check.specs.declared.errors.OpenError.{OpenError}
use Rattle.image_check.specs.declared.errors.OpenError.TheVariants.{Image, RegionTooSmall, OutOfMemory, ReadFault}
use Rattle.image_check.specs.{declared.classes.ImageClass.ImageClass, Classes.class_of, Classes.number_of}
use Rattle.segment_c.specs.{Calls.HoldsSegment, Calls.RefusesArgument, Images.mode_of, Images.mode_wrong}
use Rattle.segment_c.specs.{Marked.PlacesSegment, Passed.or_else, declared.slot.Slot.Slot}
use Rattle.image_check.specs.{EarlyTests.has_front, EarlyTests.size_word, Verdicts.Shows}

-- a region has a multiple of 16 bytes, from 16 to 2 ^ 40
abbrev pub capacity_wrong : ℕ → ℕ
capacity_wrong n = if (n % 16 == 0) && nat_le 16 n && nat_le n 1099511627776 then 0 else 22

-- the image is the segment's, at the front of a region of this many bytes, of which the others are 0
pub record IsImageOpened (image : List ℕ) (capacity : ℕ) (mode : Mode) (s : SegmentState) : Type 0 where
  pub bytes : s.cut.bytes ≡ image
  pub place : SameSurroundings (cut_at (zeros capacity) 0 (length image)) s.cut
  pub mode_is : s.mode ≡ mode
  pub denotes : IsSegment image

-- the first bytes say a size for which a region of this many bytes has no room
pub record IsTooLongForRegion (image : List ℕ) (capacity : ℕ) : Type 0 where
  pub read : 24 ≤ length image
  pub front : IsTrue (has_front current image)
  pub long : capacity < size_word image

-- the code says the first class that holds of the image
abbrev pub IsClassCode : List ℕ → ℕ → Type 0
IsClassCode image code = (c : ImageClass) × (code ≡ 100 + number_of c) × (class_of current image ≡ Some c)

-- why the image is not opened in a region of this many bytes
pub record IsWhyNotOpened (image : List ℕ) (capacity code : ℕ) : Type 0 where
  pub why : (code ≡ 26) ⊎ (((code ≡ 27) × IsTooLongForRegion image capacity) ⊎ IsClassCode image code)
  -- no class is looked for in an image that is too long
  pub too_long : IsTooLongForRegion image capacity → (code ≡ 26) ⊎ (code ≡ 27)

-- why the bytes are no image: there was no memory to look, or a class of them
abbrev pub IsNoImage : List ℕ → ℕ → Type 0
IsNoImage image code = (code ≡ 26) ⊎ IsClassCode image code

-- for a code of a class the place is a byte that shows the class; for any other code it stays
abbrev pub IsPlaced : List ℕ → ℕ → ℕ → ℕ → Type 0
IsPlaced image code old new =
    ((code ≤ 100) × (new ≡ old)) ⊎ ((c : ImageClass) × (code ≡ 100 + number_of c) × Shows current image c new)

-- the code of the reason why an image in memory is not opened, where no reader can fail
abbrev pub code_of_cause : OpenError → ℕ
code_of_cause (Image v) = 100 + number_of v.class
code_of_cause RegionTooSmall = 27
code_of_cause (OutOfMemory refusal) = 26
code_of_cause ReadFault = 0

-- the place of a verdict, or the old one
abbrev pub place_of_cause : OpenError → ℕ → ℕ
place_of_cause (Image v) old = v.place
place_of_cause RegionTooSmall old = old
place_of_cause (OutOfMemory refusal) old = old
place_of_cause ReadFault old = old

-- the size that the first bytes say, or 0
abbrev pub size_said : List ℕ → ℕ
size_said image = if nat_le 24 (length image) && has_front current image then size_word image else 0

-- a call that opens an image in a region of its own: the handle is as it was unless the code is 0
pub record OpensInHandle (image : List ℕ) (capacity mode code : ℕ) (old new : Slot) : Type 0 where
  pub stop : RefusesArgument (or_else (capacity_wrong capacity) (mode_wrong mode)) code old.segment.value
      new.segment.value
  pub opening : code ≡ 0 → HoldsSegment new.segment.value (λ t. IsImageOpened image capacity (mode_of mode) t)
  pub cause : or_else (capacity_wrong capacity) (mode_wrong mode) ≡ 0 → 1 ≤ code → IsWhyNotOpened image capacity code
  pub unchanged_on_error : 1 ≤ code → new.segment.value ≡ old.segment.value
  pub marks : PlacesSegment code old.marks new.marks false
