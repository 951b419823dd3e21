-- Calls of a segment with the path of its file: their requests to the disk, in order, and their effect on the segment.
use Rattle.std.specs.Prelude.{◌≡◌, ◌≢◌, ◌⊎◌, ℕ, true, false, List, [], ◌∷◌, length, IsTrue, string_bytes}
use Rattle.std.specs.Prelude.{Some, None, Result, Ok, Err, IfErr, MatchResult}
use Rattle.raw_region.specs.Refusals.{out_of_memory_of}
use Rattle.block_tags.specs.Format.{is_legal_size}
use Rattle.segment_manager.specs.declared.modes.Mode.TheVariants.{ReadOnly, Write}
use Rattle.segment_manager.specs.Calls.{CreatesOk}
use Rattle.segment_manager.specs.Directory.{Directory}
use Rattle.segment_manager.specs.blocks.Resized.{Resizes}
use Rattle.segment_manager.specs.State.{SegmentState, DenotesCurrent}
use Rattle.segment_manager.specs.Step.{is_read_only}
use Rattle.image_check.specs.declared.versions.AcceptedVersions.TheVariants.{Current, All}
use Rattle.grow_shrink.specs.declared.larger_region.GrowOrMoveError.{GrowOrMoveError}
use Rattle.grow_shrink.specs.declared.larger_region.GrowOrMoveError.TheVariants.{Growth as NoGrowth}
use Rattle.grow_shrink.specs.declared.larger_region.GrowOrMoveError.TheVariants.{OutOfMemory as NoLargerRegion}
use Rattle.grow_shrink.specs.declared.refusals.GrowError.{GrowError}
use Rattle.grow_shrink.specs.LargerRegion.{GrowsOrMovesErr, GrowsOrMovesOk, region_len}
use Rattle.grow_shrink.specs.Resized.{shrink_refusal, shrunk}
use Rattle.segment_disk.specs.declared.presence.Presence.{Presence}
use Rattle.segment_disk.specs.declared.presence.Presence.TheVariants.{Absent, There}
use Rattle.segment_disk.specs.Events.{CreateMode, New, Truncate, Event, Looked, Held, Released, After}
use Rattle.segment_file.specs.declared.committing.CommitLog.TheVariants.{Absent as NoLog}
use Rattle.segment_file.specs.declared.file_errors.FileError.{FileError}
use Rattle.segment_file.specs.declared.file_errors.FileError.TheVariants.{Exists, BadSize, OutOfMemory, WriteFault}
use Rattle.segment_file.specs.declared.file_errors.FileError.TheVariants.{InUse, Growth}
use Rattle.segment_file.specs.declared.segment_files.SegmentFile.{SegmentFile}
use Rattle.segment_file.specs.Committing.{log_of}
use Rattle.segment_file.specs.Files.{WritesImage}
use Rattle.segment_file.specs.Holding.{RunsLocked}
use Rattle.segment_file.specs.Opening.{OpensFile}

-- an answer of a writing that went well
abbrev pub saved : Result (Unit {0}) FileError
saved = Ok tt

-- the error of a refused request for this many bytes
abbrev pub bytes_refused : ℕ → FileError
bytes_refused n = OutOfMemory (out_of_memory_of n)

-- the error of a refused request for a region with room for this many bytes
abbrev pub region_refused : ℕ → FileError
region_refused room = bytes_refused (region_len room)

-- ---- a segment that is made

-- an empty segment of a size, at the front of a region
pub record IsEmptySegment (size : ℕ) (s : SegmentState) : Type 0 where
  pub region : List ℕ
  pub created : CreatesOk region 0 size Write s

-- why no segment is made: the size is not legal, or the size is legal and memory for its region was refused
abbrev pub IsWhyNoSegment : ℕ → FileError → Type 0
IsWhyNoSegment size why =
    ((is_legal_size size ≡ false) × (why ≡ BadSize)) ⊎ (IsTrue (is_legal_size size) × (why ≡ region_refused size))

module _ {D : Type 0} (step : D → Event → D → Type 0) (old new : D) (path : List ℕ) (size : ℕ) where
  -- the image of an empty segment was written to a new file
  pub record MakesSegmentFileOk (s : SegmentState) : Type 0 where
    pub empty : IsEmptySegment size s
    pub writes : WritesImage step old new New path s.cut.bytes saved

  -- no segment was made, for this reason, and the disk got no request
  pub record MakesSegmentFileErr (why : FileError) : Type 0 where
    pub asked : new ≡ old
    pub reason : IsWhyNoSegment size why

  -- writing the image of an empty segment to its new file failed: the file may lack a part, or may not last
  pub record MakesSegmentFileUnwritten (why : FileError) : Type 0 where
    pub segment : SegmentState
    pub empty : IsEmptySegment size segment
    pub writes : WritesImage {E = FileError} step old new New path segment.cut.bytes (Err why)
    pub refused : why ≡ WriteFault

  -- an empty segment in a file that is made for it
  abbrev pub MakesSegmentFile : Result SegmentState FileError → Type 0
  MakesSegmentFile result = MatchResult result MakesSegmentFileOk (λ why. MakesSegmentFileErr why
      ⊎ MakesSegmentFileUnwritten why)

-- the disk looked the path up and found what `IsWhere` allows, and from there on `goes_on` holds
pub record IsBehindLook {D : Type 0} (step : D → Event → D → Type 0) (old : D) (path : List ℕ) (IsWhere : Presence
    → Type 0) (goes_on : D → Type 0) : Type 0 where
  pub found : Presence
  pub is : IsWhere found
  pub looked : D
  pub asked : step old (Looked path found) looked
  pub goes : goes_on looked

-- ---- a file that is held

module _ {D : Type 0} (step : D → Event → D → Type 0) (old new : D) (path : List ℕ) where
  -- another writer has the lock of the file, and the disk got no other request
  pub record RefusesFileInUse {A : Type 0} (result : Result A FileError) : Type 0 where
    pub asked : After step old (Held path false ∷ []) new
    pub refused : result ≡ Err InUse

  -- another writer has the right to write; or the right was taken, `does` was done, and the right was given back
  abbrev pub HoldsFile : (D → D → Type 0) → Result (Unit {0}) FileError → Type 0
  HoldsFile does result = RefusesFileInUse result ⊎ RunsLocked step old new path does

  -- the right was taken before the file was read, and is kept if there is a segment, and otherwise given back
  pub record OpensHeldOk (result : Result SegmentState FileError) : Type 0 where
    pub held : D
    pub taken : step old (Held path true) held
    pub read : D
    pub opens : OpensFile step held read path Current Write 0 result
    pub kept : MatchResult result (λ s. new ≡ read) (λ why. step read Released new)

  -- another writer has the right to write; or the right is taken before the file is read, and kept exactly if there is
  -- a segment
  abbrev pub OpensHeld : Result SegmentState FileError → Type 0
  OpensHeld result = RefusesFileInUse result ⊎ OpensHeldOk result

module _ {D : Type 0} (step : D → Event → D → Type 0) (old new : D) (path : List ℕ) where
  -- something is there under the path, and nothing else was asked
  pub record RefusesExistingPath {A : Type 0} (result : Result A FileError) : Type 0 where
    pub asked : After step old (Looked path There ∷ []) new
    pub refused : result ≡ Err Exists

  -- a segment is made in a new file, unless something is there under the path
  abbrev pub CreatesSegment : ℕ → Result SegmentState FileError → Type 0
  CreatesSegment size result =
      RefusesExistingPath result ⊎ IsBehindLook step old path (λ found. found ≢ There) (λ looked.
      MakesSegmentFile step looked new path size result)

  -- the call opens the segment of the file, or makes one if nothing is there
  abbrev pub OpensOrCreates : ℕ → Result SegmentState FileError → Type 0
  OpensOrCreates size result =
      IsBehindLook step old path (λ found. found ≡ Absent) (λ looked. MakesSegmentFile step looked new path size result)
      ⊎ IsBehindLook step old path (λ found. found ≢ Absent) (λ looked. OpensHeld step looked new path result)

-- ---- a segment with its path, and with the right to write its file

-- a segment comes with the right to write its file, and `comes` holds for the result without that right
abbrev pub ComesHeld : {H : Type 0} → (Result SegmentState FileError → Type 0) → Result (SegmentState × H) FileError
    → Type 0
ComesHeld comes result = MatchResult result (λ held. comes (Ok held.0)) (λ why. comes (Err why))

-- `comes` holds for the segment, the file keeps its path, and no log was begun
pub record IsFileOf {H : Type 0} (path : List ℕ) (comes : Result SegmentState FileError
    → Type 0) (file : SegmentFile H) : Type 0 where
  pub path_is : string_bytes file.path ≡ path
  pub segment : comes (Ok file.segment)
  pub log : log_of file ≡ NoLog

-- memory for the path was refused, and nothing was asked
pub record RefusesPath {D : Type 0} (old new : D) (path : List ℕ) (why : FileError) : Type 0 where
  pub asked : new ≡ old
  pub refused : why ≡ bytes_refused (length path)

-- `comes` holds for the result, and a segment has the path of its file; or memory for the path was refused
abbrev pub KeepsFile : {D H : Type 0} → D → D → List ℕ → (Result SegmentState FileError → Type 0)
    → Result (SegmentFile H) FileError → Type 0
KeepsFile old new path comes result =
    MatchResult result (IsFileOf path comes) (λ why. RefusesPath old new path why ⊎ comes (Err why))

-- ---- a segment that is written

-- a file takes the image, and nothing else is asked: the right to write it is neither taken nor given back
pub record SavesFile {D : Type 0} (step : D → Event → D
    → Type 0) (old new : D) (path : List ℕ) (s : SegmentState) (result : Result (Unit {0}) FileError)
    (how : CreateMode) : Type 0 where
  pub writes : WritesImage step old new how path s.cut.bytes result
  pub refused : IfErr result (λ why. why ≡ WriteFault)

-- `save_as`: the image is written to a new file, unless something is there under the path
abbrev pub SavesAs : {D : Type 0} → (D → Event → D → Type 0) → D → D → List ℕ → SegmentState
    → Result (Unit {0}) FileError → Type 0
SavesAs step old new path s result =
    RefusesExistingPath step old new path result
    ⊎ IsBehindLook step old path (λ found. found ≢ There) (λ looked. SavesFile step looked new path s result New)

-- ---- a file that is looked at, or written anew

-- an answer without its segment
abbrev pub without_segment : {E : Type 0} → Result SegmentState E → Result (Unit {0}) E
without_segment (Ok s) = Ok tt
without_segment (Err why) = Err why

-- `check`: the file has a segment, or this is why it has none; nothing is opened for writing
pub record ChecksFile {D : Type 0} (step : D → Event → D
    → Type 0) (old new : D) (path : List ℕ) (result : Result (Unit {0}) FileError) : Type 0 where
  pub opened : Result SegmentState FileError
  pub opens : OpensFile step old new path Current ReadOnly 0 opened
  pub answer : result ≡ without_segment opened

-- the file was read, and then emptied for the image by the current format
pub record MigratesInPlace {D : Type 0} (step : D → Event → D
    → Type 0) (old new : D) (path : List ℕ) (result : Result (Unit {0}) FileError) : Type 0 where
  pub segment : SegmentState
  pub read : D
  pub reads : OpensFile step old read path All Write 0 (Ok segment)
  pub writes : WritesImage step read new Truncate path segment.cut.bytes result
  pub refused : IfErr result (λ why. why ≡ WriteFault)

-- the file has no segment of any format, for this reason, and is as it was
pub record MigrateRefused {D : Type 0} (step : D → Event → D
    → Type 0) (old new : D) (path : List ℕ) (result : Result (Unit {0}) FileError) : Type 0 where
  pub why : FileError
  pub reads : OpensFile step old new path All Write 0 (Err why)
  pub refused : result ≡ Err why

-- `migrate`: the file is rewritten in the current format, or refused
abbrev pub Migrates : {D : Type 0} → (D → Event → D → Type 0) → D → D → List ℕ → Result (Unit {0}) FileError → Type 0
Migrates step old new path result = MigrateRefused step old new path result ⊎ MigratesInPlace step old new path result

-- ---- other sizes

-- converts the reason why a segment does not grow to the error of a file's call
abbrev pub growth_file_error : GrowOrMoveError → FileError
growth_file_error (NoGrowth reason) = Growth reason
growth_file_error (NoLargerRegion refusal) = OutOfMemory refusal

-- the segment is unchanged: for this reason it grows neither in place nor in a larger region
pub record GrowsFileErr (old new : SegmentState) (extra : ℕ) (why : FileError) : Type 0 where
  pub cause : GrowOrMoveError
  pub refused : GrowsOrMovesErr old new extra cause
  pub answer : why ≡ growth_file_error cause

-- `grow`, which asks the disk for nothing
abbrev pub GrowsFile : SegmentState → SegmentState → ℕ → Result (Unit {0}) FileError → Type 0
GrowsFile old new extra result = MatchResult result (λ u. GrowsOrMovesOk old new extra) (GrowsFileErr old new extra)

-- the segment ends after its last block
pub record ShrinksFileOk (old new : SegmentState) : Type 0 where
  pub may : (d : Directory) → DenotesCurrent old.cut.bytes d → shrink_refusal old.mode ≡ None
  pub shrinks : Resizes old new (λ d. shrunk d)

-- the segment does not shrink, for this reason
pub record ShrinksFileErr (old new : SegmentState) (why : FileError) : Type 0 where
  pub same : new ≡ old
  pub reason : GrowError
  pub applies : (d : Directory) → DenotesCurrent old.cut.bytes d → shrink_refusal old.mode ≡ Some reason
  pub refused : why ≡ Growth reason

-- `shrink`, which asks the disk for nothing
abbrev pub ShrinksFile : SegmentState → SegmentState → Result (Unit {0}) FileError → Type 0
ShrinksFile old new result = MatchResult result (λ u. ShrinksFileOk old new) (ShrinksFileErr old new)
