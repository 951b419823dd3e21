-- The offset in the first 128 bytes that shows that an image is wrong.
use Rattle.std.specs.Prelude.{◌≡◌, ◌≢◌, ◌<◌, ◌≤◌, ◌⊎◌, ℕ, List, false, codes, length, slice_index, if◌then◌else◌}
use Rattle.raw_region.specs.Memory.{AreZero, Memory, bytes_of}
use Rattle.block_tags.specs.Format.{is_legal_size}
use Rattle.image_check.specs.declared.classes.ImageClass.{ImageClass}
use Rattle.image_check.specs.declared.classes.ImageClass.TheVariants.{BadMagic, UnsupportedVersion, BadSize}
use Rattle.image_check.specs.EarlyTests.{size_word}

-- the first byte that differs from the byte of the list at its offset
pub record IsFirstOther (b wanted : List ℕ) (at : ℕ) : Type 0 where
  pub inside : at < length wanted
  pub other : slice_index b at ≢ slice_index wanted at
  pub same : (i : ℕ) → i < at → slice_index b i ≡ slice_index wanted i

-- the first byte from an offset on, below another, that is not 0
pub record IsFirstNonzero (m : Memory) (from to at : ℕ) : Type 0 where
  pub above : from ≤ at
  pub below : at < to
  pub filled : m at ≢ 0
  pub zeros : (i : ℕ) → from ≤ i → i < at → m i ≡ 0

-- the first reserved byte that is not 0
abbrev pub IsFirstReserved : List ℕ → ℕ → Type 0
IsFirstReserved b at = IsFirstNonzero (bytes_of b) 12 16 at
    ⊎ (AreZero (bytes_of b) 12 16 × IsFirstNonzero (bytes_of b) 80 128 at)

-- 16, where the size stands, if the size is not legal, and otherwise the offset of the first byte after a segment of
-- this size
abbrev pub shown_size : List ℕ → ℕ
shown_size b = if is_legal_size (size_word b) then size_word b else 16

-- the offset that shows what is wrong with the first words
abbrev pub IsFrontOffset : List ℕ → ImageClass → ℕ → Type 0
IsFrontOffset b BadMagic at = IsFirstOther b (codes "MSEGFILE") at
IsFrontOffset b UnsupportedVersion at = at ≡ 8
IsFrontOffset b BadSize at = (at ≡ 16) × (is_legal_size (size_word b) ≡ false)
IsFrontOffset b class at = ⊥
