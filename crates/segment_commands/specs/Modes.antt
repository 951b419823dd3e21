-- A run by the name of its mode.
use Rattle.std.specs.Prelude.{◌≡◌, ℕ, Bool, Option, Some, None, Result, Err}
use Rattle.raw_region.specs.Device.{ReaderHistory, WriterHistory}
use Rattle.segment_manager.specs.declared.modes.Mode.TheVariants.{Write, ReadOnly, CopyOnWrite}
use Rattle.segment_invocation.specs.declared.invocations.ModeName.{ModeName}
use Rattle.segment_invocation.specs.declared.invocations.ModeName.TheVariants.{CreateOnly, OpenOnly, OpenOrCreate}
use Rattle.segment_invocation.specs.declared.invocations.ModeName.TheVariants.{OpenReadOnly, OpenCopyOnWrite}
use Rattle.segment_commands.specs.declared.running.RunRequest.{RunRequest}
use Rattle.segment_commands.specs.declared.command_faults.CommandFault.{CommandFault}
use Rattle.segment_commands.specs.declared.command_faults.CommandFault.TheVariants.{Usage}
use Rattle.segment_disk.specs.Events.{Event}
use Rattle.segment_commands.specs.Running.{RunsFile, RunsNewFile, RunsAnyFile}

module _ {D O : Type 0} (step : D → Event → D
    → Type 0) (old new : D) (request : RunRequest) (script script' : ReaderHistory) (history : O
    → WriterHistory) (flushes : Bool → Type 0) (out out' : O) (result : Result (Unit {0}) CommandFault) where
  -- a size is wanted and was not given; nothing was asked for
  pub record RefusesMissingSize : Type 0 where
    pub asked : new ≡ old
    pub unasked : script' ≡ script
    pub silent : out' ≡ out
    pub refused : result ≡ Err Usage

  -- `run`
  abbrev pub RunsInMode : ModeName → Option ℕ → Type 0
  RunsInMode OpenOnly size = RunsFile step old new request script script' history flushes out out' result Write
  RunsInMode OpenReadOnly size = RunsFile step old new request script script' history flushes out out' result ReadOnly
  RunsInMode OpenCopyOnWrite size =
      RunsFile step old new request script script' history flushes out out' result CopyOnWrite
  RunsInMode CreateOnly (Some size) =
      RunsNewFile step old new request size script script' history flushes out out' result
  RunsInMode CreateOnly None = RefusesMissingSize
  RunsInMode OpenOrCreate (Some size) =
      RunsAnyFile step old new request size script script' history flushes out out' result
  RunsInMode OpenOrCreate None = RefusesMissingSize
