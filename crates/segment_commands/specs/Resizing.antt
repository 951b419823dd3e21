-- How the segment of a file becomes larger or smaller: what the disk is asked, in order, and what is said.
use Rattle.std.specs.Prelude.{◌≡◌, ◌≢◌, ◌⊎◌, ◌++◌, ◌∷◌, [], ℕ, Bool, Option, List, Result, Ok, Err, codes, decimal}
use Rattle.raw_region.specs.Device.{WriterHistory}
use Rattle.segment_manager.specs.declared.modes.Mode.TheVariants.{Write}
use Rattle.segment_manager.specs.Directory.{Directory}
use Rattle.segment_manager.specs.blocks.Resized.{Resizes}
use Rattle.segment_manager.specs.State.{SegmentState, AnswersQuery}
use Rattle.segment_manager.specs.Answers.{Number}
use Rattle.seg_types.specs.Commands.{Size}
use Rattle.grow_shrink.specs.declared.refusals.GrowError.{GrowError}
use Rattle.grow_shrink.specs.declared.refusals.GrowError.TheVariants.{RegionTooSmall}
use Rattle.grow_shrink.specs.Resized.{IsRefusedBy, growth_refusal, grown, room_of, shrink_refusal, shrunk}
use Rattle.segment_cli.specs.declared.faults.SessionFault.TheVariants.{WriteFault}
use Rattle.segment_commands.specs.declared.command_faults.CommandFault.{CommandFault}
use Rattle.segment_commands.specs.declared.command_faults.CommandFault.TheVariants.{Growth, Session}
use Rattle.segment_commands.specs.declared.changing.Resize.{Resize}
use Rattle.segment_commands.specs.declared.changing.Resize.TheVariants.{Grow, Shrink}
use Rattle.segment_disk.specs.Events.{CreateMode, Event}
use Rattle.segment_file.specs.Files.{WritesImage}
use Rattle.segment_commands.specs.{Commands.RefusesFor, Opening.OpensWith}
use Rattle.image_check.specs.declared.versions.AcceptedVersions.TheVariants.{Current}
use Rattle.segment_commands.specs.Telling.{WritesAndFlushes}

-- why a segment of a directory does not become larger or smaller
abbrev pub refusal_by : Resize → SegmentState → Directory → Option GrowError
refusal_by (Grow extra) s d = growth_refusal s.mode d.size extra (room_of s.cut)
refusal_by Shrink s d = shrink_refusal s.mode

-- the directory that it has then
abbrev pub next_by : Resize → Directory → Directory
next_by (Grow extra) d = grown d extra
next_by Shrink d = shrunk d

-- for how many bytes more its region is made
abbrev pub more_by : Resize → ℕ
more_by (Grow extra) = extra
more_by Shrink = 0

-- the line that says a size
abbrev pub size_line : ℕ → List ℕ
size_line size = codes "size " ++ decimal size ++ 0x0A ∷ []

-- a telling that answers Ok
abbrev pub told_ok : (E : Type 0) → Result (Unit {0}) E
told_ok E = Ok tt

-- what the command `size` answers of a segment was said
pub record TellsSize {O E : Type 0} (history : O → WriterHistory) (flushes : O → Bool → O
    → Type 0) (out out' : O) (s : SegmentState) (result : Result (Unit {0}) E) : Type 0 where
  pub size : ℕ
  pub reply : AnswersQuery s Size (Number size)
  pub tells : WritesAndFlushes history flushes out out' (size_line size) result

module _ {D O : Type 0} (step : D → Event → D
    → Type 0) (old new : D) (path : List ℕ) (how : CreateMode) (history : O → WriterHistory) (flushes : O → Bool → O
    → Type 0) (out out' : O) where
  -- the size did not go out, and the disk was not asked for anything
  pub record TellsSizeErr {E : Type 0} (s : SegmentState) (result : Result (Unit {0}) E) : Type 0 where
    pub fault : E
    pub refused : result ≡ Err fault
    pub tells : TellsSize history flushes out out' s result
    pub asked : new ≡ old

  -- the size went out, and then the image was written
  pub record TellsSizeAndWrites {E : Type 0} (s : SegmentState) (result : Result (Unit {0}) E) : Type 0 where
    pub tells : TellsSize history flushes out out' s (told_ok E)
    pub writes : WritesImage step old new how path s.cut.bytes result

  -- the size goes out and then the image is written, or neither
  abbrev pub TellsAndWrites : {E : Type 0} → SegmentState → Result (Unit {0}) E → Type 0
  TellsAndWrites s result = TellsSizeErr s result ⊎ TellsSizeAndWrites s result

  -- the segment does not become larger or smaller, for this reason, which is none of its region
  pub record ResizesFileErr (more : ℕ) (why : SegmentState → Directory
      → Option GrowError) (result : Result (Unit {0}) CommandFault) : Type 0 where
    pub segment : SegmentState
    pub opens : OpensWith step old new path Current Write more (Ok segment)
    pub error : GrowError
    pub roomy : error ≢ RegionTooSmall
    pub refused_by : IsRefusedBy segment (Err error) (why segment)
    pub silent : out' ≡ out
    pub refused : result ≡ Err (Growth error)

-- the segment was read, and the one that it becomes was written
pub record ResizesFile {D O : Type 0} (step : D → Event → D
    → Type 0) (old new : D) (path : List ℕ) (how : CreateMode) (history : O → WriterHistory) (flushes : O → Bool → O
    → Type 0) (out out' : O)
    (more : ℕ) (next : Directory → Directory) (result : Result (Unit {0}) CommandFault) : Type 0 where
  pub segment : SegmentState
  pub read : D
  pub opens : OpensWith step old read path Current Write more (Ok segment)
  pub resized : SegmentState
  pub becomes : Resizes segment resized next
  pub goes : TellsAndWrites step read new path how history flushes out out' resized result
  pub answer : (fault : CommandFault) → result ≡ Err fault → fault ≡ Session WriteFault

-- `grow` and `shrink`
abbrev pub RunsResize : {D O : Type 0} → (D → Event → D → Type 0) → D → D → List ℕ → CreateMode → (O → WriterHistory)
    → (O → Bool → O → Type 0) → O → O
    → ℕ → (SegmentState → Directory → Option GrowError) → (Directory → Directory) → Result (Unit {0}) CommandFault
    → Type 0
RunsResize step old new path how history flushes out out' more why next result =
    RefusesFor out out' Session (λ fault. OpensWith step old new path Current Write more (Err fault)) result
    ⊎ (ResizesFileErr step old new path how history flushes out out' more why result
    ⊎ ResizesFile step old new path how history flushes out out' more next result)
