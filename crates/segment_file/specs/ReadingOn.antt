-- How the front of an image is read before its region is made, and the rest if it says more bytes than were told.
use Rattle.std.specs.Prelude.{◌≡◌, ◌⊎◌, ◌≤◌, ◌<◌, ◌++◌, ℕ, Bool, true, false, List, length, take, nat_lt}
use Rattle.std.specs.Prelude.{Result, Ok, Err, if◌then◌else◌}
use Rattle.raw_region.specs.Device.{ReaderHistory}
use Rattle.raw_region.specs.Refusals.{out_of_memory_of}
use Rattle.image_check.specs.declared.classes.ImageClass.{ImageClass}
use Rattle.image_check.specs.declared.classes.ImageClass.TheVariants.{BadSize, Truncated}
use Rattle.image_check.specs.declared.errors.MemoryFault.{MemoryFault}
use Rattle.image_check.specs.declared.errors.MemoryFault.TheVariants.{Bytes}
use Rattle.image_check.specs.declared.errors.OpenError.{OpenError}
use Rattle.image_check.specs.declared.errors.OpenError.TheVariants.{Image, RegionTooSmall, OutOfMemory, ReadFault}
use Rattle.image_check.specs.declared.versions.AcceptedVersions.{AcceptedVersions}
use Rattle.image_check.specs.EarlyTests.{has_front, size_word}
use Rattle.image_check.specs.Formats.{format_in}
use Rattle.image_check.specs.Reading.{front_of}

-- ---- as the front says it

-- the bytes begin as an image of a format, of this many bytes
pub record Says (format : ℕ) (b : List ℕ) (said : ℕ) : Type 0 where
  pub long : 24 ≤ length b
  pub front : has_front format b ≡ true
  pub size : size_word b ≡ said

abbrev pub size_or_0 : Result ℕ ImageClass → ℕ
size_or_0 (Ok n) = n
size_or_0 (Err c) = 0

-- how many bytes an image of these versions has, as its front says, and 0 for bytes that begin none
abbrev pub said_by : AcceptedVersions → List ℕ → ℕ
said_by versions b = if nat_lt (length b) 24 then 0 else size_or_0 (front_of (format_in versions b) b)

-- ---- by how many bytes are said

-- these are all bytes that a reader gave, its last read met the end or not, and no read failed
pub record IsReadUpTo (gave : ReaderHistory) (bytes : List ℕ) (ended : Bool) : Type 0 where
  pub bytes_are : gave.bytes ≡ bytes
  pub sound : gave.failures ≡ 0
  pub end_is : gave.ended ≡ ended

-- the reader gave no more than these bytes, and failed
pub record IsBroken (said : ℕ) (gave : ReaderHistory) : Type 0 where
  pub few : length gave.bytes ≤ said
  pub failed : 0 < gave.failures

-- the reader gave no more than these bytes, and memory to keep what the reader gave was refused
pub record IsUnkept (said : ℕ) (gave : ReaderHistory) (refusal : MemoryFault) : Type 0 where
  pub few : length gave.bytes ≤ said
  pub sound : gave.failures ≡ 0
  pub refused : refusal ≡ Bytes (out_of_memory_of (length gave.bytes))

-- reading stopped before the end and before as many bytes as are said, for this reason
abbrev pub IsWhyNotUpTo : ℕ → ReaderHistory → OpenError → Type 0
IsWhyNotUpTo said gave (Image v) = ⊥
IsWhyNotUpTo said gave RegionTooSmall = ⊥
IsWhyNotUpTo said gave (OutOfMemory refusal) = IsUnkept said gave refusal
IsWhyNotUpTo said gave ReadFault = IsBroken said gave

-- the text is all that a reader gave up to its end, and has as many bytes as are said
pub record IsWhole (said : ℕ) (gave : ReaderHistory) (text : List ℕ) : Type 0 where
  pub up_to : IsReadUpTo gave text true
  pub size : length text ≡ said

-- the reader ended before it gave as many bytes as are said, and no read failed
pub record IsCutShort (said : ℕ) (gave : ReaderHistory) : Type 0 where
  pub ended : gave.ended ≡ true
  pub sound : gave.failures ≡ 0
  pub short : length gave.bytes < said

-- more bytes stand after those that are said
pub record GaveMoreThan (said : ℕ) (gave : ReaderHistory) : Type 0 where
  pub sound : gave.failures ≡ 0
  pub long : said < length gave.bytes

-- the bytes read are not all of an image, for this reason
abbrev pub IsWhyNotWhole : ℕ → ReaderHistory → OpenError → Type 0
IsWhyNotWhole said gave (Image v) = ((v.class ≡ BadSize) × (v.place ≡ said) × GaveMoreThan said gave)
    ⊎ ((v.class ≡ Truncated) × (v.place ≡ length gave.bytes) × IsCutShort said gave)
IsWhyNotWhole said gave RegionTooSmall = ⊥
IsWhyNotWhole said gave (OutOfMemory refusal) = IsUnkept said gave refusal
IsWhyNotWhole said gave ReadFault = IsBroken said gave

-- ---- the front again

-- what a reader gave that gives 24 bytes again: these as they were read first, this many of them again, and then what
-- follows
abbrev pub replayed : ℕ → List ℕ → List ℕ → List ℕ
replayed given front bytes = front ++ (if nat_lt given 24 then take given front else bytes)
