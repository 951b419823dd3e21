-- The possible results of opening an image, from the bytes of its reader, in one format.
use Rattle.std.specs.Prelude.{◌≡◌, ◌⊎◌, ◌<◌, ◌≤◌, ⊤, ℕ, ◌+◌, ◌*◌, ◌/◌, true, false, ◌&&◌, List, [], length, take, drop}
use Rattle.std.specs.Prelude.{IsTrue, nat_lt, Bool, Some, Result, Ok, Err, MatchResult, if◌then◌else◌}
use Rattle.std.specs.List.{list_any}
use Rattle.raw_region.specs.Memory.{SameSurroundings, cut_at, whole}
use Rattle.block_tags.specs.Format.{is_legal_size}
use Rattle.raw_region.specs.Device.{ReaderHistory, ReadDelta}
use Rattle.segment_manager.specs.declared.modes.Mode.{Mode}
use Rattle.segment_manager.specs.Directory.{Directory}
use Rattle.segment_manager.specs.Denotes.{Denotes}
use Rattle.segment_manager.specs.State.{SegmentState}
use Rattle.image_check.specs.declared.errors.OpenError.{OpenError}
use Rattle.image_check.specs.declared.errors.OpenError.TheVariants.{Image, RegionTooSmall, OutOfMemory, ReadFault}
use Rattle.image_check.specs.declared.errors.OpenRefused.{OpenRefused}
use Rattle.image_check.specs.declared.classes.ImageClass.{ImageClass}
use Rattle.image_check.specs.EarlyTests.{has_front, size_word}
use Rattle.image_check.specs.Classes.{holds, classes, class_of, number_of, DecidesClass}
use Rattle.image_check.specs.Upgrading.{UpgradesFormat}
use Rattle.image_check.specs.Passes.{CountsBlocks, CountsTiles, IsMapRefused, has_block}

-- ---- the bytes

-- the bytes denote a directory in the format
abbrev pub IsImage : ℕ → List ℕ → Type 0
IsImage format b = (d : Directory) × Denotes format b d

-- the bytes show one of the classes before the eighth
abbrev pub has_early_class : ℕ → List ℕ → Bool
has_early_class format b = list_any (λ c. nat_lt (number_of c) 8 && holds format b c) classes

-- ---- the reader

-- bytes in memory, as the work of a reader that returned all of them, met its end and did not fail
abbrev pub as_given : List ℕ → ReadDelta
as_given b = record { bytes = b; ended = true; failed = false }

-- the reader returned nothing and did not fail
pub record IsUntouched (image : ReadDelta) : Type 0 where
  pub bytes : image.bytes ≡ []
  pub failed : image.failed ≡ false

-- the last read met the end, and no read failed
pub record IsReadToEnd (image : ReadDelta) : Type 0 where
  pub ended : image.ended ≡ true
  pub failed : image.failed ≡ false

-- no read failed; either the image was read to its end and shows this class first, or the bytes read decide the class
pub record IsRefusedAs (format : ℕ) (image : ReadDelta) (c : ImageClass) : Type 0 where
  pub sound : image.failed ≡ false
  pub right : ((image.ended ≡ true) × (class_of format image.bytes ≡ Some c)) ⊎ DecidesClass format image.bytes c

-- the first 24 bytes are the magic, the version, any half word and a legal size, and the region is too small for this
-- size
pub record IsTooSmallFor (format : ℕ) (image : ReadDelta) (base capacity : ℕ) : Type 0 where
  pub read : 24 ≤ length image.bytes
  pub front : IsTrue (has_front format image.bytes)
  pub small : capacity < base + size_word image.bytes

-- the region has room for the size in the image
pub record HasRoomForImage (format : ℕ) (image : ReadDelta) (base capacity : ℕ) : Type 0 where
  pub read : 24 ≤ length image.bytes
  pub front : IsTrue (has_front format image.bytes)
  pub room : base + size_word image.bytes ≤ capacity

-- the reader failed before its bytes decided a class
pub record IsUndecided (format : ℕ) (image : ReadDelta) : Type 0 where
  pub failed : image.failed ≡ true
  pub open_class : (c : ImageClass) → DecidesClass format image.bytes c → ⊥

-- The check of the blocks ended for want of memory: the image was read to its end, it shows none of the classes before
-- the eighth, and a tile is in use.
pub record IsOutOfMemory (format : ℕ) (image : ReadDelta) : Type 0 where
  pub read : IsReadToEnd image
  pub early : has_early_class format image.bytes ≡ false
  pub used : IsTrue (has_block image.bytes)

-- ---- the call

-- the image was read to its end and denotes a directory in its format, and the segment has this directory, at its place
-- in the region
pub record OpensOk (format : ℕ) (image : ReadDelta) (region : List ℕ) (base : ℕ) (how : Mode) (s : SegmentState) :
    Type 0 where
  pub read : IsReadToEnd image
  pub mode : s.mode ≡ how
  pub place : SameSurroundings (cut_at region base (length image.bytes)) s.cut
  pub denotes : IsImage format image.bytes
  pub renewed : UpgradesFormat format image.bytes s.cut.bytes

-- the reason why no segment is opened
abbrev pub IsOpenCause : ℕ → ReadDelta → ℕ → ℕ → OpenError → Type 0
IsOpenCause format image base capacity (Image v) = IsRefusedAs format image v.class
IsOpenCause format image base capacity RegionTooSmall = IsTooSmallFor format image base capacity
IsOpenCause format image base capacity (OutOfMemory refusal) =
    IsOutOfMemory format image × IsMapRefused image.bytes refusal
IsOpenCause format image base capacity ReadFault = IsUndecided format image

-- The region is returned. Its bytes before the base and after base and size are unchanged; if the region has no room
-- for the image, all its bytes are.
pub record IsHandedBack (format : ℕ) (image : ReadDelta) (region : List ℕ) (base : ℕ) (back : List ℕ) : Type 0 where
  pub capacity : length back ≡ length region
  pub before : take base back ≡ take base region
  pub behind : drop (base + size_word image.bytes) back ≡ drop (base + size_word image.bytes) region
  pub untouched : (HasRoomForImage format image base (length region) → ⊥) → back ≡ region

-- no segment is opened, and the region is returned
pub record IsNotOpened (format : ℕ) (image : ReadDelta) (region : List ℕ) (base : ℕ) (refused : OpenRefused) : Type
    0 where
  pub why : IsOpenCause format image base (length region) refused.cause
  pub handed_back : IsHandedBack format image region base refused.region

-- the reason in a result
abbrev pub cause_of : {S : Type 0} → Result S OpenRefused → Result S OpenError
cause_of (Ok s) = Ok s
cause_of (Err refused) = Err refused.cause

abbrev pub is_too_small_answer : {S : Type 0} → Result S OpenError → Type 0
is_too_small_answer (Ok s) = ⊥
is_too_small_answer (Err cause) = cause ≡ RegionTooSmall

-- a call that finds no room reads the first 24 bytes and no more
abbrev pub ReadsFrontAlone : {S : Type 0} → ReaderHistory → ReaderHistory → Result S OpenError → Type 0
ReadsFrontAlone old new (Ok s) = ⊤
ReadsFrontAlone old new (Err cause) = cause ≡ RegionTooSmall → length new.bytes ≡ length old.bytes + 24

-- an image from a reader is opened, or refused for a reason, and the region is returned
pub record Opens (format : ℕ) (image : ReadDelta) (region : List ℕ) (base : ℕ) (mode : Mode)
    (result : Result SegmentState OpenRefused) : Type 0 where
  pub answers : MatchResult result (OpensOk format image region base mode) (IsNotOpened format image region base)
  -- this reason has precedence wherever it applies
  pub too_small : IsTooSmallFor format image base (length region) → is_too_small_answer (cause_of result)

-- the result of an opening whose segment is dropped: its region
abbrev pub let_go : Result SegmentState OpenRefused → Result (List ℕ) OpenRefused
let_go (Ok s) = Ok (whole s.cut)
let_go (Err refused) = Err refused

-- the number of failed reads in a call with this result
abbrev pub failed_reads : {T : Type 0} → Result T OpenError → ℕ
failed_reads (Ok x) = 0
failed_reads (Err cause) = elim cause [ Image v ↦ 0 | RegionTooSmall ↦ 0 | OutOfMemory refusal ↦ 0 | ReadFault ↦ 1 ]

-- a call makes no read after the end: if the reader has ended, the last read of the call met the end, and no other did
abbrev pub AsksToTheEnd : ReaderHistory → ReaderHistory → Type 0
AsksToTheEnd old new = new.ends ≡ old.ends + (if new.ended then 1 else 0)

-- ---- visits

-- the size in the first words if it is legal, and otherwise the least size
abbrev pub size_or_least : List ℕ → ℕ
size_or_least b = if is_legal_size (size_word b) then size_word b else 144

-- whether the image is refused after a pass over its blocks in use: by a class from the eighth on
abbrev pub is_late : OpenError → Bool
is_late (Image v) = nat_lt 7 (number_of v.class)
is_late cause = false

-- a count rises by at most 64 for each 16 bytes of the size, and 64
abbrev pub IsRaisedFor : ℕ → ℕ → ℕ → Type 0
IsRaisedFor size old new = (old ≤ new) × (new ≤ old + 64 * (size / 16 + 1))

-- a count rises by at least one for each tile, if the image is refused late, and also for each block, if it is opened
abbrev pub CountsOpening : {S : Type 0} → List ℕ → Result S OpenRefused → ℕ → ℕ → Type 0
CountsOpening b result old new = MatchResult result (λ opened. CountsBlocks b old new)
    (λ refused. is_late refused.cause ≡ true → CountsTiles b old new)
