-- What each command of the program does to a file: what it asks of the disk, in order, what it writes to the output,
-- and how it ends.
use Rattle.std.specs.Prelude.{◌≡◌, ◌≢◌, ◌⊎◌, ℕ, Bool, false, List, [], ◌∷◌, Result, Ok, Err, MatchResult, IsTrue, codes}
use Rattle.block_tags.specs.Format.{is_legal_size}
use Rattle.raw_region.specs.Device.{ReadDelta, WriterHistory}
use Rattle.segment_manager.specs.declared.modes.Mode.TheVariants.{Write, ReadOnly}
use Rattle.segment_manager.specs.State.{SegmentState}
use Rattle.grow_shrink.specs.LargerRegion.{region_len}
use Rattle.segment_cli.specs.declared.faults.SessionFault.{SessionFault}
use Rattle.segment_cli.specs.declared.faults.SessionFault.TheVariants.{BadSize, WriteFault}
use Rattle.segment_cli.specs.declared.faults.Start.TheVariants.{Fresh}
use Rattle.segment_cli.specs.Beginning.{BeginsSession}
use Rattle.segment_commands.specs.declared.command_faults.CommandFault.{CommandFault}
use Rattle.segment_commands.specs.declared.command_faults.CommandFault.TheVariants.{Exists, Session}
use Rattle.segment_commands.specs.Faults.{region_refused}
use Rattle.segment_disk.specs.declared.presence.Presence.TheVariants.{There}
use Rattle.segment_disk.specs.Events.{CreateMode, New, Event, Looked, After}
use Rattle.segment_file.specs.Files.{WritesImage}
use Rattle.segment_file.specs.SegmentFiles.{IsBehindLook}
use Rattle.segment_commands.specs.Opening.{OpensFile, VerifiesFile}
use Rattle.segment_commands.specs.Telling.{WritesAndFlushes}

-- the result of writing to a file or to the output, as the program answers it: each fault is a `WriteFault`
abbrev pub written_as : {E : Type 0} → Result (Unit {0}) E → Result (Unit {0}) CommandFault
written_as (Ok u) = Ok tt
written_as (Err e) = Err (Session WriteFault)

-- ---- a segment that is made

-- no segment can have the size
pub record IsSizeless (size : ℕ) (result : Result SegmentState SessionFault) : Type 0 where
  pub illegal : is_legal_size size ≡ false
  pub refused : result ≡ Err BadSize

-- a session begins with an empty segment of the size, in a region of the length for this size
pub record IsFreshSegment (size : ℕ) (segment : SegmentState) : Type 0 where
  pub image : ReadDelta
  pub capacity : ℕ
  pub room : capacity ≡ region_len size
  pub starts : BeginsSession (Fresh size) Write 0 capacity image (Ok segment)

-- a segment can have the size: an empty one is made, or the memory for its region was refused
pub record MakesFreshSegment (size : ℕ) (result : Result SegmentState SessionFault) : Type 0 where
  pub legal : IsTrue (is_legal_size size)
  pub answers : MatchResult result (IsFreshSegment size) (λ fault. fault ≡ region_refused size)

-- an empty segment of a size is made; or not, because no segment can have the size, or because memory was refused
abbrev pub MakesSegment : ℕ → Result SegmentState SessionFault → Type 0
MakesSegment size result = IsSizeless size result ⊎ MakesFreshSegment size result

-- ---- what each end of a command says

-- the command is refused for this reason, and this is as before
pub record RefusesFor {A B : Type 0} (old new : B) (told : A → CommandFault) (Why : A → Type 0)
    (result : Result (Unit {0}) CommandFault) : Type 0 where
  pub fault : A
  pub why : Why fault
  pub unchanged : new ≡ old
  pub refused : result ≡ Err (told fault)

-- the image of a segment that was made so was written to a file, or that failed
pub record WritesMade {D : Type 0} (step : D → Event → D → Type 0) (old new : D) (path : List ℕ) (how : CreateMode)
    (IsMade : SegmentState → Type 0) (result : Result (Unit {0}) CommandFault) : Type 0 where
  pub segment : SegmentState
  pub made : IsMade segment
  pub writes : WritesImage step old new how path segment.cut.bytes result
  pub answer : (fault : CommandFault) → result ≡ Err fault → fault ≡ Session WriteFault

module _ {D : Type 0} (step : D → Event → D → Type 0) (old new : D) (path : List ℕ) where
  -- something is at the path, and the command asks the disk nothing else
  pub record RefusesExisting (result : Result (Unit {0}) CommandFault) : Type 0 where
    pub asked : After step old (Looked path There ∷ []) new
    pub refused : result ≡ Err Exists

  -- `create`: something is there; no segment and no file; or the image of an empty segment is in a new file
  abbrev pub RunsCreate : ℕ → Result (Unit {0}) CommandFault → Type 0
  RunsCreate size result = RefusesExisting result ⊎ IsBehindLook step old path (λ found. found ≢ There) (λ looked.
      RefusesFor looked new Session (λ fault. MakesSegment size (Err fault)) result
      ⊎ WritesMade step looked new path New (λ s. MakesSegment size (Ok s)) result)

  -- ---- a file that is looked at

  -- the file does not open as a segment, because of the fault, and the command writes nothing
  abbrev pub RefusesUnopened : {O : Type 0} → O → O → Result (Unit {0}) CommandFault → Type 0
  RefusesUnopened out out' result =
      RefusesFor out out' Session (λ fault. OpensFile step old new path ReadOnly (Err fault)) result

  -- the file has a segment, and the command writes `ok`
  pub record ChecksFileOk {O : Type 0} (history : O → WriterHistory) (flushes : O → Bool → O
      → Type 0) (out out' : O) (result : Result (Unit {0}) CommandFault) : Type 0 where
    pub verifies : VerifiesFile step old new path (Ok tt)
    pub tells : WritesAndFlushes history flushes out out' (codes "ok\n") result
    pub answer : (fault : CommandFault) → result ≡ Err fault → fault ≡ Session WriteFault

  -- `check`: nothing is opened for writing
  abbrev pub RunsCheck : {O : Type 0} → (O → WriterHistory) → (O → Bool → O → Type 0) → O → O
      → Result (Unit {0}) CommandFault → Type 0
  RunsCheck history flushes out out' result =
      RefusesFor out out' Session (λ fault. VerifiesFile step old new path (Err fault)) result
      ⊎ ChecksFileOk history flushes out out' result

-- ---- what the program says of itself

-- the program writes the text
pub record Prints {O : Type 0} (history : O → WriterHistory) (flushes : O → Bool → O
    → Type 0) (out out' : O) (text : List ℕ) (result : Result (Unit {0}) CommandFault) : Type 0 where
  pub tells : WritesAndFlushes history flushes out out' text result
  pub answer : (fault : CommandFault) → result ≡ Err fault → fault ≡ Session WriteFault
