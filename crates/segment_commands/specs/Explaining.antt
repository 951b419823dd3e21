-- What is said of a file whose image is refused: why, and the place in it that shows it.
use Rattle.std.specs.Prelude.{◌≡◌, ◌≢◌, ◌⊎◌, ◌++◌, ℕ, Bool, List, [], Result, Ok, Err, codes, decimal}
use Rattle.raw_region.specs.Device.{WriterHistory}
use Rattle.image_check.specs.declared.classes.ImageClass.{ImageClass}
use Rattle.image_check.specs.Classes.{explanation_of}
use Rattle.image_check.specs.declared.errors.OpenError.TheVariants.{Image}
use Rattle.image_check.specs.declared.verdict.Verdict.{Verdict}
use Rattle.segment_cli.specs.declared.faults.SessionFault.TheVariants.{Image as Refused, WriteFault}
use Rattle.segment_disk.specs.Events.{Event}
use Rattle.segment_file.specs.declared.file_errors.FileError.{FileError}
use Rattle.segment_file.specs.declared.file_errors.FileError.TheVariants.{Open}
use Rattle.segment_file.specs.SegmentFiles.{ChecksFile}
use Rattle.segment_commands.specs.declared.command_faults.CommandFault.{CommandFault}
use Rattle.segment_commands.specs.Commands.{ChecksFileOk}
use Rattle.segment_commands.specs.declared.command_faults.CommandFault.TheVariants.{Session}
use Rattle.segment_commands.specs.Opening.{session_fault}
use Rattle.segment_commands.specs.Telling.{WritesAndFlushes}

-- ---- the line of a verdict

abbrev pub verdict_text : Verdict → List ℕ
verdict_text v = codes "at " ++ (decimal v.place ++ (codes ": " ++ (explanation_of v.class ++ (codes "\n" ++ []))))

-- ---- `check --explain`

-- what is answered if a verdict went out, or not
abbrev pub explained_as : {E : Type 0} → ImageClass → Result (Unit {0}) E → Result (Unit {0}) CommandFault
explained_as class (Ok u) = Err (Session (Refused class))
explained_as class (Err e) = Err (Session WriteFault)

module _ {D O : Type 0} (step : D → Event → D → Type 0) (old new : D) (path : List ℕ) (history : O
    → WriterHistory) (flushes : O → Bool → O → Type 0) (out out' : O) (result : Result (Unit {0}) CommandFault) where
  -- the file has no segment, for a reason that is no class, and nothing was said
  pub record ExplainsErr : Type 0 where
    pub unfit : FileError
    pub why : ChecksFile step old new path (Err unfit)
    pub other : (v : Verdict) → unfit ≢ Open (Image v)
    pub silent : out' ≡ out
    pub refused : result ≡ Err (Session (session_fault unfit))

  -- the image is refused, and the line of its verdict was said; the answer is its class if all of it went out
  pub record ExplainsVerdict : Type 0 where
    pub verdict : Verdict
    pub why : ChecksFile step old new path (Err (Open (Image verdict)))
    pub said : Result (Unit {0}) CommandFault
    pub tells : WritesAndFlushes history flushes out out' (verdict_text verdict) said
    pub answer : result ≡ explained_as verdict.class said

  -- nothing is opened for writing
  abbrev pub RunsExplain : Type 0
  RunsExplain = ExplainsErr ⊎ (ExplainsVerdict ⊎ ChecksFileOk step old new path history flushes out out' result)
