-- How a session begins: with a segment for its script, or with the fault that it ends with.
use Rattle.std.specs.Prelude.{◌≡◌, ℕ, false, length, Result, Err, MatchResult}
use Rattle.raw_region.specs.Device.{ReadDelta}
use Rattle.raw_region.specs.Format.{current}
use Rattle.segment_manager.specs.declared.modes.Mode.{Mode}
use Rattle.segment_manager.specs.declared.errors.CreateError.{CreateError}
use Rattle.segment_manager.specs.declared.errors.CreateError.TheVariants.{BadSize as NoSize, RegionTooSmall as NoRoom}
use Rattle.segment_manager.specs.Directory.{Directory}
use Rattle.segment_manager.specs.State.{SegmentState, DenotesCurrent}
use Rattle.segment_manager.specs.Calls.{HasZeroGaps}
use Rattle.image_check.specs.declared.errors.OpenError.{OpenError}
use Rattle.image_check.specs.declared.errors.OpenError.TheVariants.{Image as NoImage, RegionTooSmall as NoRoomForImage}
use Rattle.image_check.specs.declared.errors.OpenError.TheVariants.{OutOfMemory as NoMemory, ReadFault as NotRead}
use Rattle.image_check.specs.Opening.{IsOutOfMemory, IsRefusedAs, IsUndecided}
use Rattle.image_check.specs.Passes.{IsMapRefused}
use Rattle.segment_cli.specs.declared.faults.Start.{Start}
use Rattle.segment_cli.specs.declared.faults.Start.TheVariants.{Fresh, Image}
use Rattle.segment_scripts.specs.declared.faults.RunFault.{RunFault}
use Rattle.segment_scripts.specs.declared.faults.RunFault.TheVariants.{ReadFault as ScriptNotRead}
use Rattle.segment_scripts.specs.declared.faults.RunFault.TheVariants.{WriteFault as AnswerNotWritten}
use Rattle.segment_scripts.specs.declared.faults.RunFault.TheVariants.{ScriptTooLong as TooLong}
use Rattle.segment_cli.specs.declared.faults.SessionFault.{SessionFault}
use Rattle.segment_cli.specs.declared.faults.SessionFault.TheVariants.{Image as Refused, BadSize, RegionTooSmall}
use Rattle.segment_cli.specs.declared.faults.SessionFault.TheVariants.{OutOfMemory, ReadFault, WriteFault}
use Rattle.segment_cli.specs.declared.faults.SessionFault.TheVariants.{ScriptTooLong}
use Rattle.segment_cli.specs.Session.{StartsFrom, BeginsWithZeros, IsImageLeft, IsSizeRefused, IsTooSmall}

-- the faults that a session hands on under names of its own
abbrev pub created_fault : CreateError → SessionFault
created_fault NoSize = BadSize
created_fault NoRoom = RegionTooSmall

abbrev pub opened_fault : OpenError → SessionFault
opened_fault (NoImage v) = Refused v.class
opened_fault NoRoomForImage = RegionTooSmall
opened_fault (NoMemory refusal) = OutOfMemory refusal
opened_fault NotRead = ReadFault

abbrev pub run_fault : RunFault → SessionFault
run_fault ScriptNotRead = ReadFault
run_fault AnswerNotWritten = WriteFault
run_fault TooLong = ScriptTooLong

-- a segment that stands for the directory with which the session begins
pub record BeginsSessionOk (start : Start) (how : Mode) (image : ReadDelta) (s : SegmentState) : Type 0 where
  pub from : Directory
  pub begins : StartsFrom start image from
  pub mode : s.mode ≡ how
  pub stands : DenotesCurrent s.cut.bytes from
  pub zeros : BeginsWithZeros start image → HasZeroGaps s
  pub read : image.failed ≡ false

-- how many bytes the segment has
abbrev pub begun_size : Start → ReadDelta → ℕ
begun_size (Fresh size) image = size
begun_size Image image = length image.bytes

-- why there is no segment
abbrev pub IsWhyNotBegun : Start → ReadDelta → ℕ → ℕ → SessionFault → Type 0
IsWhyNotBegun start image base capacity (Refused c) = (start ≡ Image) × IsRefusedAs current image c
IsWhyNotBegun start image base capacity BadSize = IsSizeRefused start
IsWhyNotBegun start image base capacity RegionTooSmall = IsTooSmall start image base capacity
IsWhyNotBegun start image base capacity (OutOfMemory refusal) =
    (start ≡ Image) × (IsOutOfMemory current image × IsMapRefused image.bytes refusal)
IsWhyNotBegun start image base capacity ReadFault = (start ≡ Image) × IsUndecided current image
IsWhyNotBegun start image base capacity WriteFault = ⊥
IsWhyNotBegun start image base capacity ScriptTooLong = ⊥

-- a session has its segment, or this is the fault
pub record BeginsSession (start : Start) (mode : Mode) (base capacity : ℕ) (image : ReadDelta)
    (result : Result SegmentState SessionFault) : Type 0 where
  pub answers : MatchResult result (BeginsSessionOk start mode image) (IsWhyNotBegun start image base capacity)
  pub left : IsImageLeft start image
  -- these two are answered wherever they apply
  pub bad_size : IsSizeRefused start → result ≡ Err BadSize
  pub too_small : IsTooSmall start image base capacity → result ≡ Err RegionTooSmall
