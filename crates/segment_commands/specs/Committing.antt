-- How a script is run on the segment of a file, and what it changed is committed to the log beside the file.
use Rattle.std.specs.Prelude.{◌≡◌, ◌≢◌, ◌⊎◌, ℕ, Bool, true, List, Option, Some, Result, Ok, Err, MatchResult}
use Rattle.raw_region.specs.Device.{ReaderHistory, WriterHistory}
use Rattle.segment_manager.specs.declared.modes.Mode.TheVariants.{Write}
use Rattle.segment_scripts.specs.declared.ends.End.{End}
use Rattle.segment_scripts.specs.declared.ends.End.TheVariants.{Complete, Refused}
use Rattle.segment_log.specs.Events.{LogEvent}
use Rattle.segment_cli.specs.declared.faults.SessionFault.{SessionFault}
use Rattle.segment_cli.specs.declared.faults.SessionFault.TheVariants.{WriteFault}
use Rattle.segment_disk.specs.declared.presence.Presence.TheVariants.{Absent}
use Rattle.segment_disk.specs.Events.{Event, Truncate}
use Rattle.segment_file.specs.declared.committing.CommitFault.{CommitFault}
use Rattle.segment_file.specs.Committing.{CommitsSegment}
use Rattle.segment_file.specs.Files.{all_of}
use Rattle.segment_file.specs.SegmentFiles.{IsBehindLook}
use Rattle.segment_invocation.specs.declared.invocations.ModeName.{ModeName}
use Rattle.segment_invocation.specs.declared.invocations.ModeName.TheVariants.{OpenOnly, OpenOrCreate}
use Rattle.segment_commands.specs.declared.command_faults.CommandFault.{CommandFault}
use Rattle.segment_commands.specs.declared.running.RunRequest.{RunRequest}
use Rattle.segment_commands.specs.Holding.{HoldsLock}
use Rattle.segment_commands.specs.Modes.{RefusesMissingSize}
use Rattle.segment_commands.specs.Running.{Act, EndsRunLost, EndsRunRefused, EndsRunStopped, FailsScript, IsAnswerOf}
use Rattle.segment_commands.specs.Running.{IsUnrefusedAct, Ran, RunsMade, RunsOpenedTo}

module _ {D : Type 0} (step : D → Event → D → Type 0) (log_step : D → LogEvent → D → Type 0) (old new : D)
    (path : List ℕ) (act : Act) (Flushed : Bool → Type 0) where
  -- all answers went out, and then the image of the last directory was committed: a crash at any moment of that leaves
  -- the image of before or this one, and each crash after it this one
  pub record EndsRunCommitted : Type 0 where
    pub image : List ℕ
    pub commits : CommitsSegment step log_step old new path image (Ok tt)
    pub ran : Ran act (all_of image) (Ok tt)
    pub unrefused : IsUnrefusedAct act
    pub flushed : Flushed true

  -- a run ends well: committed after all answers, or at a refusal
  abbrev pub EndsCommitOk : End → Type 0
  EndsCommitOk Complete = EndsRunCommitted
  EndsCommitOk Refused = EndsRunRefused step old new Truncate path act Flushed

  -- all answers went out, and then the image of the last directory was not committed, or need not last
  pub record EndsRunUncommitted (fault : SessionFault) : Type 0 where
    pub why : fault ≡ WriteFault
    pub image : List ℕ
    pub reason : CommitFault
    pub commits : CommitsSegment step log_step old new path image (Err reason)
    pub ran : Ran act (all_of image) (Ok tt)
    pub flushed : Flushed true

  -- how a run ends
  abbrev pub EndsCommit : Result End SessionFault → Type 0
  EndsCommit result = MatchResult result EndsCommitOk (λ fault.
      EndsRunStopped step old new Truncate path act Flushed fault
      ⊎ (EndsRunLost step old new Truncate path act Flushed fault ⊎ EndsRunUncommitted fault))

module _ {D O : Type 0} (step : D → Event → D → Type 0) (log_step : D → LogEvent → D → Type 0) (old new : D)
    (request : RunRequest) (script script' : ReaderHistory) (history : O → WriterHistory) (flushes : Bool → Type 0)
    (out out' : O) where
  -- the file of a run was opened with its log, or not
  abbrev pub CommitsOpened : Result End SessionFault → Type 0
  CommitsOpened result = RunsOpenedTo step old new request Write script script' history out out' result (λ read act.
      EndsCommit step log_step read new request.path.now act flushes result)

module _ {D O : Type 0} (step : D → Event → D → Type 0) (log_step : D → LogEvent → D → Type 0) (old new : D)
    (request : RunRequest) (script script' : ReaderHistory) (history : O → WriterHistory) (flushes : Bool → Type 0)
    (out out' : O) (result : Result (Unit {0}) CommandFault) where
  -- a run has the right to write the file from before it is read until it is committed; if another has it, nothing was
  -- read or said
  abbrev pub CommitsHeld : Type 0
  CommitsHeld = HoldsLock step old new request.path.now ((script' ≡ script) × (out' ≡ out))
      (λ held done. IsAnswerOf (CommitsOpened step log_step held done request script script' history flushes out out')
      result) result

  -- a run on a file that is there
  abbrev pub CommitsOnFile : Type 0
  CommitsOnFile = FailsScript old new script script' out out' result ⊎ CommitsHeld

  -- a mode that does not save what it opened; nothing was asked for
  abbrev pub RefusesMode : Type 0
  RefusesMode = RefusesMissingSize step old new request script script' history flushes out out' result

module _ {D O : Type 0} (step : D → Event → D → Type 0) (log_step : D → LogEvent → D → Type 0) (old new : D)
    (request : RunRequest) (script script' : ReaderHistory) (history : O → WriterHistory) (flushes : Bool → Type 0)
    (out out' : O) (result : Result (Unit {0}) CommandFault) where
  -- a run on the segment in the file, which is committed, or on a new one if nothing is there
  abbrev pub CommitsAnyFile : ℕ → Type 0
  CommitsAnyFile size = IsBehindLook step old request.path.now (λ found. found ≡ Absent)
      (RunsMade step old new request size script script' history flushes out out' result)
      ⊎ IsBehindLook step old request.path.now (λ found. found ≢ Absent) (λ looked.
      CommitsOnFile step log_step looked new request script script' history flushes out out' result)

  -- `run_and_commit`
  abbrev pub CommitsInMode : ModeName → Option ℕ → Type 0
  CommitsInMode OpenOnly size =
      CommitsOnFile step log_step old new request script script' history flushes out out' result
  CommitsInMode OpenOrCreate (Some size) = CommitsAnyFile size
  CommitsInMode mode size = RefusesMode step log_step old new request script script' history flushes out out' result
