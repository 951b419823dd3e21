-- How an image of an older format is written anew in its file: what the disk is asked, in order, and what is said.
use Rattle.std.specs.Prelude.{◌≡◌, ◌⊎◌, Bool, List, ℕ, Result, Ok, Err, codes}
use Rattle.raw_region.specs.Device.{WriterHistory}
use Rattle.segment_manager.specs.declared.modes.Mode.TheVariants.{Write}
use Rattle.segment_manager.specs.State.{SegmentState}
use Rattle.image_check.specs.declared.versions.AcceptedVersions.TheVariants.{All}
use Rattle.segment_cli.specs.declared.faults.SessionFault.{SessionFault}
use Rattle.segment_cli.specs.declared.faults.SessionFault.TheVariants.{WriteFault}
use Rattle.segment_commands.specs.declared.command_faults.CommandFault.{CommandFault}
use Rattle.segment_commands.specs.declared.command_faults.CommandFault.TheVariants.{Session}
use Rattle.segment_disk.specs.Events.{CreateMode, Event}
use Rattle.segment_file.specs.Files.{WritesImage}
use Rattle.segment_commands.specs.{Commands.RefusesFor, Opening.OpensWith}
use Rattle.segment_commands.specs.Telling.{WritesAndFlushes}

-- a writing that answers Ok
abbrev pub written_ok : (E : Type 0) → Result (Unit {0}) E
written_ok E = Ok tt

module _ {D : Type 0} (step : D → Event → D → Type 0) (old new : D) (path : List ℕ) where
  -- the segment of a file of any of the three formats
  abbrev pub OpensAnyFile : Result SegmentState SessionFault → Type 0
  OpensAnyFile result = OpensWith step old new path All Write 0 result

-- the file was read, and its image could not be written
pub record MigratesFileErr {D O : Type 0} (step : D → Event → D
    → Type 0) (old new : D) (path : List ℕ) (how : CreateMode) (out out' : O)
    (result : Result (Unit {0}) CommandFault) : Type 0 where
  pub segment : SegmentState
  pub read : D
  pub opens_file : OpensAnyFile step old read path (Ok segment)
  pub writes : WritesImage step read new how path segment.cut.bytes result
  pub silent : out' ≡ out
  pub refused : result ≡ Err (Session WriteFault)

-- the file was read, its image was written whole, and then `ok` was said
pub record MigratesFileOk {D O : Type 0} (step : D → Event → D
    → Type 0) (old new : D) (path : List ℕ) (how : CreateMode) (history : O → WriterHistory) (flushes : O → Bool → O
    → Type 0) (out out' : O) (result : Result (Unit {0}) CommandFault) : Type 0 where
  pub segment : SegmentState
  pub read : D
  pub opens_file : OpensAnyFile step old read path (Ok segment)
  pub writes : WritesImage step read new how path segment.cut.bytes (written_ok CommandFault)
  pub tells : WritesAndFlushes history flushes out out' (codes "ok\n") result
  pub answer : (fault : CommandFault) → result ≡ Err fault → fault ≡ Session WriteFault

-- `migrate`
abbrev pub RunsMigrate : {D O : Type 0} → (D → Event → D → Type 0) → D → D → List ℕ → CreateMode → (O → WriterHistory)
    → (O → Bool → O → Type 0) → O → O → Result (Unit {0}) CommandFault → Type 0
RunsMigrate step old new path how history flushes out out' result =
    RefusesFor out out' Session (λ fault. OpensAnyFile step old new path (Err fault)) result
    ⊎ (MigratesFileErr step old new path how out out' result
    ⊎ MigratesFileOk step old new path how history flushes out out' result)
