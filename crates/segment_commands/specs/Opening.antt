-- How the segment of a file is opened, or only its image checked, as a session answers it.
use Rattle.std.specs.Prelude.{◌≡◌, ℕ, List, Result, Ok, Err}
use Rattle.segment_manager.specs.declared.modes.Mode.{Mode}
use Rattle.segment_manager.specs.State.{SegmentState}
use Rattle.image_check.specs.declared.errors.OpenError.TheVariants.{Image, OutOfMemory as NoMemory}
use Rattle.image_check.specs.declared.versions.AcceptedVersions.{AcceptedVersions}
use Rattle.image_check.specs.declared.versions.AcceptedVersions.TheVariants.{Current}
use Rattle.segment_cli.specs.declared.faults.SessionFault.{SessionFault}
use Rattle.segment_cli.specs.declared.faults.SessionFault.TheVariants.{Image as Refused, OutOfMemory, ReadFault}
use Rattle.segment_disk.specs.Events.{Event}
use Rattle.segment_file.specs.declared.file_errors.FileError.{FileError}
use Rattle.segment_file.specs.declared.file_errors.FileError.TheVariants.{Open}
use Rattle.segment_file.specs.Opening.{OpensFile as ReadsFile}
use Rattle.segment_file.specs.SegmentFiles.{ChecksFile}

-- why a file has no segment
abbrev pub session_fault : FileError → SessionFault
session_fault (Open (Image v)) = Refused v.class
session_fault (Open (NoMemory refusal)) = OutOfMemory refusal
session_fault other = ReadFault

abbrev pub as_session : {A : Type 0} → Result A FileError → Result A SessionFault
as_session (Ok s) = Ok s
as_session (Err error) = Err (session_fault error)

module _ {D : Type 0} (step : D → Event → D → Type 0) (old new : D) (path : List ℕ) where
  -- the file was read as images of these versions are, to a region with room for this many bytes more, and nothing else
  -- was asked
  pub record OpensWith (versions : AcceptedVersions) (mode : Mode) (more : ℕ)
      (result : Result SegmentState SessionFault) : Type 0 where
    pub read : Result SegmentState FileError
    pub reads : ReadsFile step old new path versions mode more read
    pub answer : result ≡ as_session read

  -- the segment of a file, or why there is none
  abbrev pub OpensFile : Mode → Result SegmentState SessionFault → Type 0
  OpensFile mode result = OpensWith Current mode 0 result

  -- the file's image was checked: it has a segment, or this is why it has none
  pub record VerifiesFile (result : Result (Unit {0}) SessionFault) : Type 0 where
    pub found : Result (Unit {0}) FileError
    pub checks : ChecksFile step old new path found
    pub answer : result ≡ as_session found
