-- How a script is run on the segment of a file: what the disk is asked, in order, and how the run ends.
use Rattle.std.specs.Prelude.{◌≡◌, ◌≢◌, ◌⊎◌, ◌≤◌, ℕ, ◌+◌, Bool, true, false, List, [], ◌∷◌, length, Result, Ok, Err}
use Rattle.std.specs.Prelude.{MatchResult}
use Rattle.raw_region.specs.Device.{ReaderHistory, ReadDelta, WriterHistory, WriteDelta, read_delta, write_delta}
use Rattle.raw_region.specs.Format.{current}
use Rattle.segment_manager.specs.declared.modes.Mode.{Mode}
use Rattle.segment_manager.specs.declared.modes.Mode.TheVariants.{Write, ReadOnly, CopyOnWrite}
use Rattle.segment_manager.specs.Directory.{Directory}
use Rattle.segment_manager.specs.State.{SegmentState}
use Rattle.segment_lang.specs.Language.{whole_language}
use Rattle.segment_scripts.specs.declared.ends.End.{End}
use Rattle.segment_scripts.specs.declared.ends.End.TheVariants.{Complete, Refused}
use Rattle.segment_scripts.specs.declared.ends.Until.{Until}
use Rattle.segment_scripts.specs.Lines.{script_limit}
use Rattle.segment_scripts.specs.Run.{lines, run}
use Rattle.segment_scripts.specs.RunOutcome.{MeetsEndOnce}
use Rattle.segment_scripts.specs.Segments.{MachineState, IsMachineAt, answer_line, refuses_line}
use Rattle.segment_scripts.specs.Stopping.{IsStoppedAt, goes_on, stops_at}
use Rattle.grow_shrink.specs.LargerRegion.{region_len}
use Rattle.segment_cli.specs.declared.faults.Start.{Start}
use Rattle.segment_cli.specs.declared.faults.Start.TheVariants.{Fresh, Image}
use Rattle.segment_cli.specs.declared.faults.SessionFault.{SessionFault}
use Rattle.segment_cli.specs.declared.faults.SessionFault.TheVariants.{ReadFault, WriteFault}
use Rattle.segment_commands.specs.declared.running.RunRequest.{RunRequest}
use Rattle.segment_commands.specs.declared.command_faults.CommandFault.{CommandFault}
use Rattle.segment_commands.specs.declared.command_faults.CommandFault.TheVariants.{Stopped, Exists, Session}
use Rattle.segment_cli.specs.Serving.{ServesOk, ServesErr}
use Rattle.segment_cli.specs.Session.{LeavesZeros, MeetsScriptEnd, RunsSession, SessionIo, StartsFrom}
use Rattle.segment_disk.specs.Events.{CreateMode, New, Replacement, create_mode_of}
use Rattle.segment_disk.specs.declared.presence.Presence.TheVariants.{Absent, There}
use Rattle.segment_disk.specs.Events.{Event, Looked, After}
use Rattle.segment_file.specs.Files.{WriteOutcome, Overtaken, Unchanged, NotMade, Closed, Offered, HasImage}
use Rattle.segment_file.specs.Files.{write_events, all_of, open_events}
use Rattle.segment_commands.specs.Holding.{HoldsLock}
use Rattle.segment_file.specs.Opening.{file_region}
use Rattle.segment_file.specs.SegmentFiles.{IsBehindLook}
use Rattle.segment_commands.specs.Opening.{OpensFile}
use Rattle.segment_commands.specs.Commands.{MakesSegment}

-- ---- a script

-- what it was given and gave out, where Flushed says what the last flush answered
module _ (until : Until) (old new : SegmentState) (script : ReadDelta) (out : WriteDelta) (Flushed : Bool
    → Type 0) where
  -- the script was answered up to this end, and ok says whether all answers went out
  pub record AnswersScript (end : End) (ok : Bool) : Type 0 where
    pub served : ServesOk until old new script out end
    pub flushed : Flushed ok

  -- the run failed; what was answered was given out, if the output let it
  pub record StopsWithFault (fault : SessionFault) : Type 0 where
    pub unserved : ServesErr until old new script out fault
    pub ok : Bool
    pub flushed : Flushed ok

  -- the script was answered, and answers did not go out
  pub record LosesAnswers (fault : SessionFault) : Type 0 where
    pub why : fault ≡ WriteFault
    pub end : End
    pub answered : AnswersScript end false

  -- a script on the segment of a run
  abbrev pub RunsScript : Result End SessionFault → Type 0
  RunsScript result = MatchResult result (λ end. AnswersScript end true) (λ fault. StopsWithFault fault
      ⊎ LosesAnswers fault)

-- ---- a run, from the segment that it begins with

-- one run of the program: how it began and in which mode, its capacity, and what went in and out
pub record Act : Type 0 where
  pub start : Start
  pub mode : Mode
  pub capacity : ℕ
  pub image : ReadDelta
  pub until : Until
  pub script : ReadDelta
  pub out : WriteDelta

-- the run of a request: how it began and in which mode, its capacity, and what went in and out
abbrev pub act_of : {O : Type 0} → RunRequest → Start → Mode → ℕ → ReadDelta → ReaderHistory → ReaderHistory
    → (O → WriterHistory) → O → O → Act
act_of request start mode capacity image script script' history out out' = record {
  start = start;
  mode = mode;
  capacity = capacity;
  image = image;
  until = request.until;
  script = read_delta script script';
  out = write_delta (history out) (history out');
}

-- what went in and out of a run that saved this
abbrev pub io_of : Act → WriteDelta → SessionIo
io_of act saved = record { image = act.image; script = act.script; out = act.out; saved = saved }

-- the run is a session that saved this
pub record Ran (act : Act) (saved : WriteDelta) (result : Result (Unit {0}) SessionFault) : Type 0 where
  pub session : RunsSession act.start act.mode 0 act.capacity (io_of act saved) result
  pub zero_gaps : LeavesZeros act.start act.mode (io_of act saved) result

-- the script was read to its end, and the output took every answer, from a directory that the run begins with
pub record IsAnsweredAct (act : Act) : Type 0 where
  pub from : Directory
  pub begins : StartsFrom act.start act.image from
  pub whole : act.script.ended ≡ true
  pub read : act.script.failed ≡ false
  pub within : length act.script.bytes ≤ script_limit
  pub prints : act.out.bytes ≡ (run (whole_language current) act.mode from act.script.bytes).0
  pub written : act.out.failed ≡ false

-- where a run begins that begins with this directory; nothing need be known of its gaps
abbrev pub first_state : Act → Directory → MachineState
first_state act from = record { mode = act.mode; directory = from; zeros = false }

-- the run was to end after none of the lines, from a directory that it begins with
pub record IsUnrefusedAct (act : Act) : Type 0 where
  pub from : Directory
  pub begins : StartsFrom act.start act.image from
  pub on : goes_on answer_line (stops_at act.until refuses_line) (first_state act from) (lines act.script.bytes) ≡ true

-- the run ended after the first line that was refused, and the output took its answer and all before
pub record IsRefusedAct (act : Act) : Type 0 where
  pub from : Directory
  pub begins : StartsFrom act.start act.image from
  pub last : SegmentState
  pub stopped : IsStoppedAt answer_line (stops_at act.until refuses_line) (first_state act from) act.script act.out
      (IsMachineAt last)

-- the output took all answers up to this end
abbrev pub IsAnsweredTo : Act → End → Type 0
IsAnsweredTo act Complete = IsAnsweredAct act
IsAnsweredTo act Refused = IsRefusedAct act

-- what a run asks of the disk that saved this: in mode Write its file is made, emptied or replaced and takes it, or has
-- it already, and else nothing
abbrev pub saving : Mode → CreateMode → List ℕ → List ℕ → WriteOutcome → List Event
saving Write how path image written = write_events how path image written
saving ReadOnly how path image written = []
saving CopyOnWrite how path image written = []

module _ {D : Type 0} (step : D → Event → D
    → Type 0) (old new : D) (how : CreateMode) (path : List ℕ) (act : Act) (Flushed : Bool → Type 0) where
  -- all answers went out, and then, in mode Write, the image of the last directory was written, or is there already
  pub record EndsRunSaved : Type 0 where
    pub image : List ℕ
    pub written : WriteOutcome
    pub whole : HasImage how image written
    pub asked : After step old (saving act.mode how path image written) new
    pub ran : Ran act (all_of image) (Ok tt)
    pub unrefused : IsUnrefusedAct act
    pub flushed : Flushed true

  -- the run ended after a line that was refused, all answers went out, and the disk was not asked for anything
  pub record EndsRunRefused : Type 0 where
    pub asked : new ≡ old
    pub refused : IsRefusedAct act
    pub flushed : Flushed true

  -- a run ends well: saved after all answers, or at a refusal
  abbrev pub EndsRunOk : End → Type 0
  EndsRunOk Complete = EndsRunSaved
  EndsRunOk Refused = EndsRunRefused

  -- the session was stopped, and the disk was not asked for anything
  pub record EndsRunStopped (fault : SessionFault) : Type 0 where
    pub asked : new ≡ old
    pub ran : Ran act (all_of []) (Err fault)
    pub ok : Bool
    pub flushed : Flushed ok

  -- all was answered up to an end, but not all answers went out, and the disk was not asked for anything
  pub record EndsRunLost (fault : SessionFault) : Type 0 where
    pub why : fault ≡ WriteFault
    pub asked : new ≡ old
    pub end : End
    pub answered : IsAnsweredTo act end
    pub flushed : Flushed false

  -- why the image is not in the file or need not last: another has its name, it could not be made or emptied, writing
  -- it failed, or all of it was written and need not last, or did not take the place of the old one
  abbrev pub LeavesUnsaved : WriteOutcome → Type 0
  LeavesUnsaved Overtaken = IsAnsweredAct act
  LeavesUnsaved Unchanged = ⊥
  LeavesUnsaved NotMade = IsAnsweredAct act
  LeavesUnsaved (Closed taken lasts) = Ran act taken (Err WriteFault) ⊎ ((lasts ≡ false) × Ran act taken (Ok tt))
  LeavesUnsaved (Offered image placed) = (how ≡ Replacement) × (placed ≡ false) × Ran act (all_of image) (Ok tt)

  -- all answers went out, and then the image did not reach its file, or need not last
  pub record EndsRunUnsaved (fault : SessionFault) : Type 0 where
    pub why : fault ≡ WriteFault
    pub mode : act.mode ≡ Write
    pub flushed : Flushed true
    pub image : List ℕ
    pub written : WriteOutcome
    pub asked : After step old (write_events how path image written) new
    pub unsaved : LeavesUnsaved written

  -- how a run ends
  abbrev pub EndsRun : Result End SessionFault → Type 0
  EndsRun result = MatchResult result EndsRunOk (λ fault. EndsRunStopped fault
      ⊎ (EndsRunLost fault ⊎ EndsRunUnsaved fault))

-- the end of a run, as the program answers it
abbrev pub as_program : Result End SessionFault → Result (Unit {0}) CommandFault
as_program (Ok Complete) = Ok tt
as_program (Ok Refused) = Err Stopped
as_program (Err fault) = Err (Session fault)

-- the result of a run whose script ended, by the result of its save
abbrev pub as_saved : {E : Type 0} → Result (Unit {0}) E → Result End SessionFault
as_saved (Ok done) = Ok Complete
as_saved (Err why) = Err WriteFault

-- the program answers as a run did
pub record IsAnswerOf (runs : Result End SessionFault → Type 0) (result : Result (Unit {0}) CommandFault) : Type 0 where
  pub answer : Result End SessionFault
  pub ran : runs answer
  pub result_is : result ≡ as_program answer

-- ---- the end that the reader of a script met

-- the reader of the script met its end in this call, once, if the script has ended; a run that is refused before its
-- script reads nothing, and meets no end
abbrev pub MeetsRunEnd : Result (Unit {0}) CommandFault → ReaderHistory → ReaderHistory → Type 0
MeetsRunEnd (Ok u) old new = MeetsEndOnce old new
MeetsRunEnd (Err Stopped) old new = MeetsEndOnce old new
MeetsRunEnd (Err (Session ReadFault)) old new = (new.ends ≡ old.ends) ⊎ MeetsEndOnce old new
MeetsRunEnd (Err (Session fault)) old new = MeetsScriptEnd {A = Unit {0}} (Err fault) old new
MeetsRunEnd (Err fault) old new = new ≡ old

-- ---- the segment of a file

-- the script can't be read at all, and the disk was not asked for anything
pub record FailsScript {D O : Type 0} (old new : D) (script script' : ReaderHistory) (out out' : O)
    (result : Result (Unit {0}) CommandFault) : Type 0 where
  pub asked : new ≡ old
  pub failed : script'.failures ≡ script.failures + 1
  pub silent : out' ≡ out
  pub refused : result ≡ Err (Session ReadFault)

module _ {D O : Type 0} (step : D → Event → D → Type 0) (old new : D) (request : RunRequest) (mode : Mode)
    (script script' : ReaderHistory) (history : O → WriterHistory) (out out' : O)
    (result : Result End SessionFault) where
  -- the file has no segment, for this reason; the script was not asked for
  pub record RunsOpenedErr : Type 0 where
    pub fault : SessionFault
    pub opens_file : OpensFile step old new request.path.now mode (Err fault)
    pub unasked : script' ≡ script
    pub silent : out' ≡ out
    pub refused : result ≡ Err fault

  -- the file was opened, read and closed, and the script ran on its segment, in a region with room for what the disk
  -- told of the file's length, and for what the image says; from there on the run ended so
  pub record RunsOpenedOk (Ends : D → Act → Type 0) : Type 0 where
    pub len : ℕ
    pub image : ReadDelta
    pub capacity : ℕ
    pub room : capacity ≡ file_region len 0 image.bytes
    pub read : D
    pub asked : After step old (open_events request.path.now len image) read
    pub ends : Ends read (act_of request Image mode capacity image script script' history out out')

  -- the file of a run was opened and the run ended so, or it was not opened
  abbrev pub RunsOpenedTo : (D → Act → Type 0) → Type 0
  RunsOpenedTo Ends = RunsOpenedErr ⊎ RunsOpenedOk Ends

-- the file of a run was opened, or not
abbrev pub RunsOpened : {D O : Type 0} → (D → Event → D → Type 0) → D → D → RunRequest → Mode → ReaderHistory
    → ReaderHistory → (O → WriterHistory) → (Bool → Type 0) → O → O → Result End SessionFault → Type 0
RunsOpened step old new request mode script script' history flushes out out' result =
    RunsOpenedTo step old new request mode script script' history out out' result (λ read act.
    EndsRun step read new (create_mode_of request.saving) request.path.now act flushes result)

module _ {D O : Type 0} (step : D → Event → D
    → Type 0) (old new : D) (request : RunRequest) (script script' : ReaderHistory) (history : O
    → WriterHistory) (flushes : Bool → Type 0) (out out' : O) (result : Result (Unit {0}) CommandFault) where
  -- a run that saves nothing
  abbrev pub RunsFree : Mode → Type 0
  RunsFree mode = IsAnswerOf (RunsOpened step old new request mode script script' history flushes out out') result

  -- a run that saves has the right to write the file from before it is read until it is written; if another has it,
  -- nothing was read or said
  abbrev pub RunsHeld : Type 0
  RunsHeld = HoldsLock step old new request.path.now ((script' ≡ script) × (out' ≡ out))
      (λ held done. IsAnswerOf (RunsOpened step held done request Write script script' history flushes out out') result)
      result

  -- a run in a mode that the file has
  abbrev pub RunsReadable : Mode → Type 0
  RunsReadable Write = RunsHeld
  RunsReadable ReadOnly = RunsFree ReadOnly
  RunsReadable CopyOnWrite = RunsFree CopyOnWrite

  -- a run on a file that is there
  abbrev pub RunsFile : Mode → Type 0
  RunsFile mode = FailsScript old new script script' out out' result ⊎ RunsReadable mode

-- ---- a segment that is made

module _ {D : Type 0} (step : D → Event → D
    → Type 0) (old new : D) (request : RunRequest) (size : ℕ) (script script' : ReaderHistory) where
  -- no segment was made, for this reason: nothing was asked for
  pub record MakesRunErr {O : Type 0} (out out' : O) (result : Result End SessionFault) : Type 0 where
    pub fault : SessionFault
    pub why : MakesSegment size (Err fault)
    pub asked : new ≡ old
    pub unasked : script' ≡ script
    pub silent : out' ≡ out
    pub refused : result ≡ Err fault

  -- an empty segment was made, and the script ran on it; it is saved to a new file
  pub record MakesRunOk {O : Type 0} (history : O → WriterHistory) (flushes : Bool
      → Type 0) (out out' : O) (result : Result End SessionFault) : Type 0 where
    pub image : ReadDelta
    pub capacity : ℕ
    pub room : capacity ≡ region_len size
    pub ends : EndsRun step old new New request.path.now
        (act_of request (Fresh size) Write capacity image script script' history out out') flushes result

  -- the empty segment of a run was made, or not
  abbrev pub MakesRun : {O : Type 0} → (O → WriterHistory) → (Bool → Type 0) → O → O → Result End SessionFault → Type 0
  MakesRun history flushes out out' result = MakesRunErr out out' result ⊎ MakesRunOk history flushes out out' result

  -- something is there already, and nothing else was asked for
  pub record RunsNothing {O : Type 0} (out out' : O) (result : Result (Unit {0}) CommandFault) : Type 0 where
    pub asked : After step old (Looked request.path.now There ∷ []) new
    pub unasked : script' ≡ script
    pub silent : out' ≡ out
    pub refused : result ≡ Err Exists

module _ {D O : Type 0} (step : D → Event → D
    → Type 0) (old new : D) (request : RunRequest) (size : ℕ) (script script' : ReaderHistory) (history : O
    → WriterHistory) (flushes : Bool → Type 0) (out out' : O) (result : Result (Unit {0}) CommandFault) where
  -- a run on a segment that is made
  abbrev pub RunsMade : D → Type 0
  RunsMade looked = IsAnswerOf (MakesRun step looked new request size script script' history flushes out out') result

  -- a run on a segment that is made, in a file that is not there
  abbrev pub RunsNewFile : Type 0
  RunsNewFile = RunsNothing step old new request size script script' out out' result
      ⊎ IsBehindLook step old request.path.now (λ found. found ≢ There) RunsMade

  -- a run on the segment in the file, or on a new one if nothing is there
  abbrev pub RunsAnyFile : Type 0
  RunsAnyFile = IsBehindLook step old request.path.now (λ found. found ≡ Absent) RunsMade
      ⊎ IsBehindLook step old request.path.now (λ found. found ≢ Absent) (λ looked.
      RunsFile step looked new request script script' history flushes out out' result Write)
