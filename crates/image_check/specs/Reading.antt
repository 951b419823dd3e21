-- The reads in the parts of an opening, and their reasons to stop.
use Rattle.std.specs.Prelude.{◌≡◌, ◌≤◌, ⊤, ℕ, ◌+◌, Bool, true, false, List, [], ◌∷◌, ◌++◌, length}
use Rattle.std.specs.Prelude.{IsTrue, if◌then◌else◌, Result, Ok, Err}
use Rattle.raw_region.specs.Memory.{WindowState, SameSurroundings, cut_at, whole}
use Rattle.raw_region.specs.Device.{ReadDelta}
use Rattle.block_tags.specs.Format.{is_legal_size}
use Rattle.image_check.specs.declared.errors.OpenError.{OpenError}
use Rattle.image_check.specs.declared.errors.OpenError.TheVariants.{Image, RegionTooSmall, ReadFault}
use Rattle.image_check.specs.declared.errors.OpenRefused.{OpenRefused}
use Rattle.image_check.specs.declared.classes.ImageClass.{ImageClass}
use Rattle.image_check.specs.declared.classes.ImageClass.TheVariants.{Truncated, BadMagic, UnsupportedVersion, BadSize}
use Rattle.image_check.specs.EarlyTests.{has_magic, has_version, has_front, size_word}
use Rattle.image_check.specs.Opening.{IsHandedBack, IsReadToEnd, IsOpenCause, IsTooSmallFor, as_given, is_late}

-- ---- the first words

-- the size in the first 24 bytes, or the class of what is wrong with them
abbrev pub front_of : ℕ → List ℕ → Result ℕ ImageClass
front_of format b =
    if has_magic b then (if has_version format b then
    (if is_legal_size (size_word b) then Ok (size_word b) else Err BadSize) else Err UnsupportedVersion)
    else Err BadMagic

-- ---- reading

-- the reason why fewer bytes were read than requested: the reader failed, or it ended
abbrev pub IsShort : Bool → OpenError → Type 0
IsShort ended (Image v) = (v.class ≡ Truncated) × (ended ≡ true)
IsShort ended ReadFault = ⊤
IsShort ended cause = ⊥

-- The reason why a read of one byte after the image did not meet the end: the reader failed, or it returned a byte.
abbrev pub ReadsPastEnd : List ℕ → List ℕ → OpenError → Type 0
ReadsPastEnd old new (Image v) = (v.class ≡ BadSize) × ((byte : ℕ) × (new ≡ old ++ byte ∷ []))
ReadsPastEnd old new ReadFault = new ≡ old
ReadsPastEnd old new cause = ⊥

-- the reason why no image is in the region, after these bytes were read
pub record Stops (format : ℕ) (image : ReadDelta) (base capacity : ℕ) (cause : OpenError) : Type 0 where
  pub why : IsOpenCause format image base capacity cause
  pub too_small : IsTooSmallFor format image base capacity → cause ≡ RegionTooSmall
  pub early : is_late cause ≡ false

-- the first 24 bytes were read, and the region has room for the size in them
pub record ReadsFrontOk (format : ℕ) (old new front : List ℕ) (base capacity size : ℕ) : Type 0 where
  pub read : new ≡ old ++ front
  pub long : length front ≡ 24
  pub right : IsTrue (has_front format front)
  pub says : size ≡ size_word front
  pub room : base + size ≤ capacity

-- a window begins with the first 24 bytes of an image, and has the size in them
pub record HasFront (format : ℕ) (w : WindowState) : Type 0 where
  pub right : IsTrue (has_front format w.bytes)
  pub says : size_word w.bytes ≡ length w.bytes

-- a whole image is at its place in the region
pub record IsImageRead (format : ℕ) (image : ReadDelta) (region : List ℕ) (base : ℕ) (w : WindowState) : Type 0 where
  pub read : IsReadToEnd image
  pub bytes : w.bytes ≡ image.bytes
  pub place : SameSurroundings (cut_at region base (length image.bytes)) w
  pub room : base + length image.bytes ≤ length region
  pub capacity : length (whole w) ≡ length region
  pub front : HasFront format w

-- no image is in the region, which is returned
pub record IsNotRead (format : ℕ) (image : ReadDelta) (region : List ℕ) (base : ℕ) (refused : OpenRefused) : Type
    0 where
  pub stops : Stops format image base (length region) refused.cause
  pub handed_back : IsHandedBack format image region base refused.region

-- ---- bytes in memory

-- the number of bytes is the size in their first words, and the region has room for it
pub record FitsIn (format : ℕ) (b : List ℕ) (base capacity size : ℕ) : Type 0 where
  pub front : IsTrue (has_front format b)
  pub says : size ≡ size_word b
  pub long : length b ≡ size
  pub room : base + size ≤ capacity

-- the bytes are not copied to the region, which is returned unchanged
pub record IsNotCopied (format : ℕ) (b region : List ℕ) (base : ℕ) (refused : OpenRefused) : Type 0 where
  pub misfit : Stops format (as_given b) base (length region) refused.cause
  pub back : refused.region ≡ region
