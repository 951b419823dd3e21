-- How the image in a file is opened: how much room its segment has, and why there is none.
use Rattle.std.specs.Prelude.{◌≡◌, ◌⊎◌, ◌<◌, ◌≤◌, ℕ, ◌+◌, true, false, List, length, max, Some, None, Result, Err}
use Rattle.std.specs.Prelude.{MatchResult}
use Rattle.raw_region.specs.Device.{ReaderHistory, ReadDelta, read_delta}
use Rattle.raw_region.specs.Refusals.{out_of_memory_of}
use Rattle.raw_region.specs.declared.refused_memory.OutOfMemory.{OutOfMemory as NoMemory}
use Rattle.segment_manager.specs.declared.modes.Mode.{Mode}
use Rattle.segment_manager.specs.State.{SegmentState}
use Rattle.image_check.specs.declared.errors.MemoryFault.TheVariants.{BlockMap, Bytes}
use Rattle.image_check.specs.declared.errors.OpenError.{OpenError}
use Rattle.image_check.specs.declared.errors.OpenError.TheVariants.{Image, OutOfMemory, ReadFault, RegionTooSmall}
use Rattle.image_check.specs.declared.versions.AcceptedVersions.{AcceptedVersions}
use Rattle.image_check.specs.Causes.{IsShown}
use Rattle.image_check.specs.Deciding.{decided}
use Rattle.image_check.specs.EarlyTests.{size_word}
use Rattle.image_check.specs.Formats.{format_in}
use Rattle.image_check.specs.Opening.{OpensOk, IsOutOfMemory, IsRefusedAs, IsUndecided, as_given}
use Rattle.image_check.specs.Passes.{IsRefusalFor}
use Rattle.grow_shrink.specs.LargerRegion.{region_len}
use Rattle.segment_disk.specs.declared.presence.NotOpened.{NotOpened}
use Rattle.segment_disk.specs.declared.presence.NotOpened.TheVariants.{Fault, ForeignLog as HasForeignLog}
use Rattle.segment_disk.specs.Events.{Event, After, nothing_given}
use Rattle.segment_file.specs.declared.file_errors.FileError.{FileError}
use Rattle.segment_file.specs.declared.file_errors.FileError.TheVariants.{ForeignLog, Open}
use Rattle.segment_file.specs.declared.opening.Prepared.{Prepared}
use Rattle.segment_file.specs.Files.{open_events, failed_open_events}
use Rattle.segment_file.specs.ReadingOn.{IsReadUpTo, said_by}

-- ---- how much room a segment has

-- the capacity of its region: for as many bytes as the disk tells of its file, or as its image says if these are more,
-- and for this many bytes more
abbrev pub file_region : ℕ → ℕ → List ℕ → ℕ
file_region len more image = region_len (max len (size_word image) + more)

-- the most bytes of one request: the capacity of a region for as many bytes as the disk tells of its file, or as were
-- read of the image if these are more, and for this many bytes more
abbrev pub largest_request : ℕ → ℕ → List ℕ → ℕ
largest_request len more image = region_len (max len (length image) + more)

-- ---- why there is none

-- what was read of an image decides no class of it, and no read failed
pub record IsOpenYet (format : ℕ) (image : ReadDelta) : Type 0 where
  pub sound : image.failed ≡ false
  pub undecided : decided format image.bytes ≡ None

-- a request was refused, for the region or for what was read so far: for at most this many bytes
pub record IsWithoutMemory (format most : ℕ) (image : ReadDelta) (refusal : NoMemory) : Type 0 where
  pub yet : IsOpenYet format image
  pub asked : ℕ
  pub within : asked ≤ most
  pub refused : refusal ≡ out_of_memory_of asked

-- why an image is not opened; never for want of room
abbrev pub IsUnfitFor : ℕ → ℕ → ReadDelta → OpenError → Type 0
IsUnfitFor format most image (Image v) = IsRefusedAs format image v.class
IsUnfitFor format most image RegionTooSmall = ⊥
IsUnfitFor format most image (OutOfMemory (BlockMap refusal)) =
    IsOutOfMemory format image × IsRefusalFor image.bytes refusal
IsUnfitFor format most image (OutOfMemory (Bytes refusal)) = IsWithoutMemory format most image refusal
IsUnfitFor format most image ReadFault = IsUndecided format image

-- an image is not opened, for this reason, and a class comes with the offset that shows it
pub record IsUnopened (format most : ℕ) (image : ReadDelta) (why : OpenError) : Type 0 where
  pub unfit : IsUnfitFor format most image why
  pub shown : IsShown format image.bytes why

-- an image of these versions is not opened; no request is larger than what the file has, whatever its front says
abbrev pub IsUnopenedBy : AcceptedVersions → ℕ → ℕ → ReadDelta → OpenError → Type 0
IsUnopenedBy versions len more image why =
    IsUnopened (format_in versions image.bytes) (largest_request len more image.bytes) image why

-- ---- an image that is opened

-- by the current format, or by any of the three
abbrev pub IsOpenedBy : AcceptedVersions → ReadDelta → List ℕ → Mode → SegmentState → Type 0
IsOpenedBy versions image region mode s = OpensOk (format_in versions image.bytes) image region 0 mode s

-- the segment of the image stands at the front of a region with room for it, and for this many bytes more
pub record OpensImageOk (versions : AcceptedVersions) (len more : ℕ) (mode : Mode) (image : ReadDelta)
    (s : SegmentState) : Type 0 where
  pub region : List ℕ
  pub room : length region ≡ file_region len more image.bytes
  pub opened : IsOpenedBy versions image region mode s

-- the image of a reader is opened in a region with room, or not, for a reason
abbrev pub OpensReader : AcceptedVersions → ℕ → Mode → ℕ → ReadDelta → Result SegmentState OpenError → Type 0
OpensReader versions more mode len image result =
    MatchResult result (OpensImageOk versions len more mode image) (IsUnopenedBy versions len more image)

-- ---- the image in a file

-- why a file has no segment that was not opened
abbrev pub unopened_error : NotOpened → FileError
unopened_error Fault = Open ReadFault
unopened_error HasForeignLog = ForeignLog

-- why one has none that was opened
abbrev pub IsWhyUnopened : AcceptedVersions → ℕ → ℕ → ReadDelta → FileError → Type 0
IsWhyUnopened versions len more image (Open why) = IsUnopenedBy versions len more image why
IsWhyUnopened versions len more image other = ⊥

-- opens the image of a file, or says why it is no segment
abbrev pub OpensImage : AcceptedVersions → ℕ → Mode → ℕ → ReadDelta → Result SegmentState FileError → Type 0
OpensImage versions more mode len image result =
    MatchResult result (OpensImageOk versions len more mode image) (IsWhyUnopened versions len more image)

module _ {D : Type 0} (step : D → Event → D → Type 0) (old new : D) (path : List ℕ) where
  -- the file was not opened, for this reason, and nothing else was asked
  pub record OpensFileErr (result : Result SegmentState FileError) : Type 0 where
    pub why : NotOpened
    pub asked : After step old (failed_open_events path why) new
    pub refused : result ≡ Err (unopened_error why)

  -- the file was opened, and had this many bytes by what the disk told, was read and closed, and nothing else was asked
  pub record OpensFileAs (versions : AcceptedVersions) (mode : Mode) (more : ℕ)
      (result : Result SegmentState FileError) : Type 0 where
    pub len : ℕ
    pub image : ReadDelta
    pub asked : After step old (open_events path len image) new
    pub answer : OpensImage versions more mode len image result

  -- the call opens the segment of a file, or says why there is none
  abbrev pub OpensFile : AcceptedVersions → Mode → ℕ → Result SegmentState FileError → Type 0
  OpensFile versions mode more result = OpensFileErr result ⊎ OpensFileAs versions mode more result

-- ---- the parts of an opening

-- The region has room for what the front says. The text is all that the reader has, or it is the front, and no more was
-- read.
pub record IsPrepared (versions : AcceptedVersions) (len more : ℕ) (gave : ReaderHistory) (prepared : Prepared) :
    Type 0 where
  pub room : length prepared.region ≡ region_len (max len (said_by versions prepared.text.items) + more)
  pub whole : prepared.is_whole ≡ true → read_delta nothing_given gave ≡ as_given prepared.text.items
  pub front : prepared.is_whole ≡ false → IsReadUpTo gave prepared.text.items false
  pub long : prepared.is_whole ≡ false → length prepared.text.items ≡ 24

-- an image is opened in a region, or not, for a reason that is no refused request for bytes
abbrev pub OpensIn : AcceptedVersions → ReadDelta → List ℕ → Mode → Result SegmentState OpenError → Type 0
OpensIn versions image region mode result =
    MatchResult result (IsOpenedBy versions image region mode)
    (λ why. (most : ℕ) → IsUnopened (format_in versions image.bytes) most image why)
