-- What `salvage` writes of the bytes of a file.
use Rattle.std.specs.Prelude.{◌≡◌, ◌⊎◌, ◌+◌, ◌∷◌, ◌++◌, ℕ, Bool, List, [], Option, Some, None, Result, Ok, Err, codes}
use Rattle.std.specs.Prelude.{MatchResult, decimal, flat_map, length, nat_le, if◌then◌else◌}
use Rattle.raw_region.specs.Device.{ReadDelta, WriterHistory}
use Rattle.raw_region.specs.Format.{current}
use Rattle.raw_region.specs.Memory.{part}
use Rattle.segment_lang.specs.Texts.{name_text}
use Rattle.segment_manager.specs.declared.modes.Mode.TheVariants.{ReadOnly}
use Rattle.segment_manager.specs.State.{SegmentState}
use Rattle.image_check.specs.declared.errors.MemoryFault.{MemoryFault}
use Rattle.image_check.specs.declared.errors.OpenError.{OpenError}
use Rattle.image_check.specs.declared.errors.OpenError.TheVariants.{OutOfMemory as MapRefused}
use Rattle.image_check.specs.Opening.{IsOpenCause, OpensOk, as_given}
use Rattle.grow_shrink.specs.LargerRegion.{region_len}
use Rattle.segment_cli.specs.declared.faults.SessionFault.{SessionFault}
use Rattle.segment_cli.specs.declared.faults.SessionFault.TheVariants.{OutOfMemory, ReadFault, WriteFault}
use Rattle.segment_cli.specs.Reports.{WritesText}
use Rattle.segment_invocation.specs.declared.invocations.Report.TheVariants.{Dump}
use Rattle.segment_disk.specs.declared.presence.NotOpened.{NotOpened}
use Rattle.segment_disk.specs.Events.{After, Event}
use Rattle.segment_file.specs.Files.{failed_open_events, open_events}
use Rattle.segment_salvage.specs.declared.losses.Loss.{Loss}
use Rattle.segment_salvage.specs.declared.losses.LossCause.{LossCause}
use Rattle.segment_salvage.specs.declared.losses.LossCause.TheVariants.{BadHead, BadIndex, BadValue, NoSpace}
use Rattle.segment_salvage.specs.declared.losses.LossCause.TheVariants.{Repeated, TooMuch}
use Rattle.segment_salvage.specs.Standing.{IsSalvaged}
use Rattle.segment_commands.specs.declared.command_faults.CommandFault.{CommandFault}
use Rattle.segment_commands.specs.declared.command_faults.CommandFault.TheVariants.{OutOfMemory as NoMemory, Session}
use Rattle.segment_commands.specs.Loading.{IsReadWhole, IsWhyUnread}
use Rattle.segment_commands.specs.Reporting.{WritesTextOf, text_of}

-- ---- the bytes of a file

module _ {D : Type 0} (step : D → Event → D → Type 0) (old new : D) (path : List ℕ)
    (result : Result (List ℕ) SessionFault) where
  -- the file was not opened, and the disk was asked nothing else
  pub record ReadsUnopened : Type 0 where
    pub why : NotOpened
    pub asked : After step old (failed_open_events path why) new
    pub refused : result ≡ Err ReadFault

  -- the file was opened, read and closed: these are its bytes, or this is why they were not read whole
  pub record ReadsOpened : Type 0 where
    pub len : ℕ
    pub image : ReadDelta
    pub asked : After step old (open_events path len image) new
    pub answer : MatchResult result (IsReadWhole image) (IsWhyUnread image)

  -- the bytes of a file, or why they were not read
  abbrev pub ReadsFile : Type 0
  ReadsFile = ReadsUnopened ⊎ ReadsOpened

-- ---- an image

-- the bytes are an image of the current format, and the segment is that of the image
pub record IsWholeImage (image : List ℕ) (segment : SegmentState) : Type 0 where
  pub region : List ℕ
  pub opened : OpensOk current (as_given image) region 0 ReadOnly segment

-- the bytes are no image of the current format, for this reason
pub record IsRefusedImage (image : List ℕ) : Type 0 where
  pub cause : OpenError
  pub why : IsOpenCause current (as_given image) 0 (region_len (length image)) cause
  pub other : (refusal : MemoryFault) → cause ≡ MapRefused refusal → ⊥

-- a segment of the image, or none
abbrev pub FindsWhole : List ℕ → Option SegmentState → Type 0
FindsWhole image (Some segment) = IsWholeImage image segment
FindsWhole image None = IsRefusedImage image

-- memory was refused
abbrev pub LacksMemory : CommandFault → Type 0
LacksMemory fault = ((refusal : MemoryFault) × (fault ≡ Session (OutOfMemory refusal))) ⊎ (fault ≡ NoMemory)

-- ---- what is left out

abbrev pub cause_message : LossCause → List ℕ
cause_message BadIndex = codes "an index leads to no object here"
cause_message BadHead = codes "its kind, class, count or name is wrong"
cause_message BadValue = codes "its value is wrong, or lies outside the image"
cause_message TooMuch = codes "other objects claim its bytes too"
cause_message Repeated = codes "another object has its name or kind"
cause_message NoSpace = codes "there is no space for it"

-- the name behind the head of an object that is left out, if the image has it
abbrev pub name_in : List ℕ → Loss → List ℕ
name_in image loss =
    if nat_le (loss.at + 16 + loss.name_len) (length image) then part image (loss.at + 16) loss.name_len else []

-- a name as a script spells it, and - for none
abbrev pub key_text : List ℕ → List ℕ
key_text [] = codes "-"
key_text (c ∷ cs) = name_text (c ∷ cs)

-- the line of an object that is left out
abbrev pub loss_line : List ℕ → Loss → List ℕ
loss_line image loss = codes "segment: left out: " ++ (key_text (name_in image loss) ++ (codes " at "
    ++ (decimal loss.at ++ (codes ": " ++ (cause_message loss.cause ++ (codes "\n" ++ []))))))

-- the line of their count
abbrev pub count_line : List Loss → List ℕ
count_line losses = codes "segment: objects left out: " ++ (decimal (length losses) ++ (codes "\n" ++ []))

-- the lines of the objects that are left out, and of their count
abbrev pub losses_text : List ℕ → List Loss → List ℕ
losses_text image losses = flat_map (loss_line image) losses ++ count_line losses

-- the status: 1 if something is left out
abbrev pub status_of : List Loss → ℕ
status_of [] = 0
status_of (loss ∷ losses) = 1

-- ---- `salvage`

-- what is answered if a dump went out, or not
abbrev pub salvaged_as : {E : Type 0} → ℕ → Result (Unit {0}) E → Result ℕ CommandFault
salvaged_as status (Ok u) = Ok status
salvaged_as status (Err e) = Err (Session WriteFault)

-- the lines are told if a dump went out, and otherwise nothing is
abbrev pub TellsLosses : {E : Type 0} → WriterHistory → WriterHistory → List ℕ → Result (Unit {0}) E → Type 0
TellsLosses err err' lines (Ok u) = WritesText err err' lines
TellsLosses err err' lines (Err e) = err' ≡ err

module _ {O : Type 0} (history : O → WriterHistory) (flushes : O → Bool → O → Type 0) (out out' : O)
    (err err' : WriterHistory) (result : Result ℕ CommandFault) where
  -- nothing is written, for this reason
  pub record SalvagesErr (Why : CommandFault → Type 0) : Type 0 where
    pub fault : CommandFault
    pub why : Why fault
    pub silent : out' ≡ out
    pub mute : err' ≡ err
    pub refused : result ≡ Err fault

  -- the bytes are an image: its dump is written, as `dump` writes it
  pub record SalvagesWhole (image : List ℕ) : Type 0 where
    pub segment : SegmentState
    pub whole : IsWholeImage image segment
    pub wrote : Result (Unit {0}) CommandFault
    pub tells : WritesTextOf history flushes out out' segment (text_of Dump) wrote
    pub mute : err' ≡ err
    pub answer : result ≡ salvaged_as 0 wrote

  -- The bytes are no image: the dump of a segment is written, each object of which stands in the bytes, and then what
  -- is left out.
  pub record SalvagesParts (image : List ℕ) : Type 0 where
    pub refused : IsRefusedImage image
    pub segment : SegmentState
    pub salvaged : IsSalvaged image segment
    pub wrote : Result (Unit {0}) CommandFault
    pub tells : WritesTextOf history flushes out out' segment (text_of Dump) wrote
    pub losses : List Loss
    pub told : TellsLosses err err' (losses_text image losses) wrote
    pub answer : result ≡ salvaged_as (status_of losses) wrote

  -- bytes that were read
  abbrev pub SalvagesBytes : List ℕ → Type 0
  SalvagesBytes image = SalvagesErr LacksMemory ⊎ (SalvagesWhole image ⊎ SalvagesParts image)

  -- a file was read, and then this is of its bytes; or it was not
  pub record SalvagesRead {D : Type 0} (step : D → Event → D → Type 0) (old new : D) (path : List ℕ) : Type 0 where
    pub image : List ℕ
    pub read : ReadsFile step old new path (Ok image)
    pub bytes : SalvagesBytes image

-- the file is opened for reading alone
abbrev pub RunsSalvage : {D O : Type 0} → (D → Event → D → Type 0) → D → D → List ℕ → (O → WriterHistory)
    → (O → Bool → O → Type 0) → O → O → WriterHistory → WriterHistory → Result ℕ CommandFault → Type 0
RunsSalvage step old new path history flushes out out' err err' result =
    SalvagesErr history flushes out out' err err' result
    (λ fault. (refusal : SessionFault) × ReadsFile step old new path (Err refusal) × (fault ≡ Session refusal))
    ⊎ SalvagesRead history flushes out out' err err' result step old new path
