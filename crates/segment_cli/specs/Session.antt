-- What a session owes: what it prints and saves, and what each fault leaves.
use Rattle.std.specs.Prelude.{◌≡◌, ◌⊎◌, ◌<◌, ◌≤◌, ℕ, ◌+◌, Bool, true, false, ⊤, List, [], ◌∷◌, ◌++◌, length, take}
use Rattle.std.specs.Prelude.{IsTrue, Result, Ok, Err, MatchResult}
use Rattle.raw_region.specs.Device.{ReaderHistory, ReadDelta, WriterHistory, WriteDelta, IsProperPrefix, read_delta}
use Rattle.raw_region.specs.Device.{write_delta}
use Rattle.raw_region.specs.Format.{current}
use Rattle.block_tags.specs.Format.{is_legal_size}
use Rattle.segment_manager.specs.declared.modes.Mode.{Mode}
use Rattle.segment_manager.specs.declared.modes.Mode.TheVariants.{Write, ReadOnly as ReadOnlyMode, CopyOnWrite}
use Rattle.segment_manager.specs.Directory.{Directory, empty}
use Rattle.segment_manager.specs.State.{DenotesCurrent}
use Rattle.segment_manager.specs.Calls.{HasZeroGaps}
use Rattle.image_check.specs.Opening.{IsOutOfMemory, IsRefusedAs, IsTooSmallFor, IsUndecided, IsUntouched}
use Rattle.image_check.specs.Passes.{IsMapRefused}
use Rattle.image_check.specs.Saving.{IsSaved}
use Rattle.segment_lang.specs.Language.{whole_language as whole_language}
use Rattle.segment_lang.specs.Reading.{reading}
use Rattle.segment_cli.specs.declared.faults.Start.{Start}
use Rattle.segment_cli.specs.declared.faults.Start.TheVariants.{Fresh, Image}
use Rattle.segment_cli.specs.declared.faults.SessionFault.{SessionFault}
use Rattle.segment_cli.specs.declared.faults.SessionFault.TheVariants.{Image as Refused, BadSize, RegionTooSmall}
use Rattle.segment_cli.specs.declared.faults.SessionFault.TheVariants.{OutOfMemory, ReadFault, WriteFault}
use Rattle.segment_cli.specs.declared.faults.SessionFault.TheVariants.{ScriptTooLong}
use Rattle.segment_scripts.specs.Run.{run, run_lines, respond}
use Rattle.segment_scripts.specs.RunOutcome.{MeetsEndOnce}
use Rattle.segment_scripts.specs.Lines.{executable, script_limit, whole_lines}
use Rattle.segment_scripts.specs.ZeroGaps.{zeros_after_run}

-- what the image, the script, the output and the saved image gave and took
pub record SessionIo : Type 0 where
  pub image : ReadDelta
  pub script : ReadDelta
  pub out : WriteDelta
  pub saved : WriteDelta

-- what the four devices gave and took, from their histories before the session and after it
abbrev pub session_io : ReaderHistory → ReaderHistory → ReaderHistory → ReaderHistory → WriterHistory → WriterHistory
    → WriterHistory → WriterHistory → SessionIo
session_io image image' script script' out out' saved saved' = record {
  image = read_delta image image';
  script = read_delta script script';
  out = write_delta out out';
  saved = write_delta saved saved';
}

-- ---- where a session begins

-- if a segment is made fresh, the image's reader gave nothing and did not fail
abbrev pub IsImageLeft : Start → ReadDelta → Type 0
IsImageLeft (Fresh size) image = IsUntouched image
IsImageLeft Image image = ⊤

-- the gaps of these bytes are zero, as those of a segment are
abbrev pub HasZeroGapsIn : List ℕ → Type 0
HasZeroGapsIn image = HasZeroGaps (record { cut = record { before = []; bytes = image; after = [] }; mode = Write })

-- an empty directory of a fresh size, or the one that the image denotes, which was read to its end
abbrev pub StartsFrom : Start → ReadDelta → Directory → Type 0
StartsFrom (Fresh size) image d = IsTrue (is_legal_size size) × (d ≡ empty size)
StartsFrom Image image d = (image.ended ≡ true) × DenotesCurrent image.bytes d

-- the gaps are zero with which a session begins: those of a fresh segment are, those of an image may be
abbrev pub BeginsWithZeros : Start → ReadDelta → Type 0
BeginsWithZeros (Fresh size) image = ⊤
BeginsWithZeros Image image = HasZeroGapsIn image.bytes

-- the size of a fresh segment is not legal
abbrev pub IsSizeRefused : Start → Type 0
IsSizeRefused (Fresh size) = is_legal_size size ≡ false
IsSizeRefused Image = ⊥

-- the region does not hold the fresh size, or the legal size in the first 24 bytes of the image
abbrev pub IsTooSmall : Start → ReadDelta → ℕ → ℕ → Type 0
IsTooSmall (Fresh size) image base capacity = IsTrue (is_legal_size size) × (capacity < base + size)
IsTooSmall Image image base capacity = IsTooSmallFor current image base capacity

-- ---- what a session prints and saves

-- in mode Write an image of the directory that is accepted again, and otherwise nothing
abbrev pub SavesImage : Mode → List ℕ → Directory → Type 0
SavesImage Write saved d = IsSaved saved d
SavesImage ReadOnlyMode saved d = saved ≡ []
SavesImage CopyOnWrite saved d = saved ≡ []

-- after a script from this directory the gaps of an image are zero, if the script leaves them so
abbrev pub KeepsZeros : Start → Mode → ReadDelta → Directory → List ℕ → List ℕ → Type 0
KeepsZeros start mode began from script image =
    (known : Bool) → (known ≡ true → BeginsWithZeros start began)
    → zeros_after_run (whole_language current) mode from script known ≡ true → HasZeroGapsIn image

-- nothing went out
pub record IsSilent (t : SessionIo) : Type 0 where
  pub prints : t.out.bytes ≡ []
  pub saves : t.saved.bytes ≡ []

-- which of the four devices failed in the session
pub record Failures : Type 0 where
  pub image : Bool
  pub script : Bool
  pub out : Bool
  pub saved : Bool

-- which of the four devices failed
abbrev pub failures : SessionIo → Failures
failures t = record { image = t.image.failed; script = t.script.failed; out = t.out.failed; saved = t.saved.failed }

abbrev pub none_failed : Failures
none_failed = record { image = false; script = false; out = false; saved = false }

-- done: the script was read whole, the output is what `run` prints, and no device failed
pub record IsDone (start : Start) (mode : Mode) (t : SessionIo) : Type 0 where
  pub from : Directory
  pub begins : StartsFrom start t.image from
  pub whole : t.script.ended ≡ true
  pub within : length t.script.bytes ≤ script_limit
  pub prints : t.out.bytes ≡ (run (whole_language current) mode from t.script.bytes).0
  pub saves : SavesImage mode t.saved.bytes (run (whole_language current) mode from t.script.bytes).1
  pub failed : failures t ≡ none_failed

-- all lines that ended in the script, within its limit, were answered, and nothing is saved
pub record AnswersEndedLines (start : Start) (mode : Mode) (t : SessionIo) : Type 0 where
  pub from : Directory
  pub begins : StartsFrom start t.image from
  pub prints : t.out.bytes ≡ (run (whole_language current) mode from (whole_lines (take script_limit t.script.bytes))).0
  pub saves : t.saved.bytes ≡ []

-- lines were answered, and of the answer to the next a proper prefix went out; nothing is saved
pub record IsCutInAnswer (start : Start) (mode : Mode) (t : SessionIo) : Type 0 where
  pub from : Directory
  pub begins : StartsFrom start t.image from
  pub answered : List (List ℕ)
  pub next : List ℕ
  pub rest : List (List ℕ)
  pub script : executable t.script ≡ answered ++ next ∷ rest
  pub prefix : List ℕ
  pub prints : t.out.bytes ≡ (run_lines (whole_language current) mode from answered).0 ++ prefix
  pub part : IsProperPrefix prefix
      (respond mode (run_lines (whole_language current) mode from answered).1 (reading (whole_language current) next)).0
  pub saves : t.saved.bytes ≡ []

-- all was answered, and of an image of the last directory a proper prefix was written
pub record IsCutInImage (start : Start) (mode : Mode) (t : SessionIo) : Type 0 where
  pub writes : mode ≡ Write
  pub from : Directory
  pub begins : StartsFrom start t.image from
  pub whole : t.script.ended ≡ true
  pub within : length t.script.bytes ≤ script_limit
  pub prints : t.out.bytes ≡ (run (whole_language current) mode from t.script.bytes).0
  pub image : List ℕ
  pub denotes : DenotesCurrent image (run (whole_language current) mode from t.script.bytes).1
  pub part : IsProperPrefix t.saved.bytes image

-- the image's reader failed, and what it gave before leaves the class open
pub record IsImageUnread (start : Start) (t : SessionIo) : Type 0 where
  pub image : start ≡ Image
  pub undecided : IsUndecided current t.image
  pub silent : IsSilent t
  pub script : t.script.bytes ≡ []
  pub failed : failures t ≡ record none_failed { image = true }

-- the script's reader failed
pub record IsScriptUnread (start : Start) (mode : Mode) (t : SessionIo) : Type 0 where
  pub within : length t.script.bytes ≤ script_limit
  pub cut : AnswersEndedLines start mode t
  pub failed : failures t ≡ record none_failed { script = true }

-- the writer of the answers failed
pub record IsAnswerUnwritten (start : Start) (mode : Mode) (t : SessionIo) : Type 0 where
  pub cut : IsCutInAnswer start mode t
  pub failed : failures t ≡ record none_failed { out = true }

-- the writer of the image failed; a proper prefix of the image may be saved
pub record IsImageUnwritten (start : Start) (mode : Mode) (t : SessionIo) : Type 0 where
  pub cut : IsCutInImage start mode t
  pub failed : failures t ≡ record none_failed { saved = true }

-- more of the script was read than it may have
pub record IsScriptTooLong (start : Start) (mode : Mode) (t : SessionIo) : Type 0 where
  pub long : script_limit < length t.script.bytes
  pub cut : AnswersEndedLines start mode t
  pub failed : failures t ≡ none_failed

-- the session ended before a byte of the script was read; the image's reader may have failed after what decides the
-- answer
pub record IsRefusedBefore (t : SessionIo) (cause : Type 0) : Type 0 where
  pub why : cause
  pub silent : IsSilent t
  pub script : t.script.bytes ≡ []
  pub failed : failures t ≡ record none_failed { image = t.image.failed }

-- ---- what a session answers, in a region of this capacity; the check of an image alone takes memory

-- the session ended with this fault, for the reason that the fault names
abbrev pub AnswersFault : Start → Mode → ℕ → ℕ → SessionIo → SessionFault → Type 0
AnswersFault start mode base capacity t (Refused c) = IsRefusedBefore t
    ((start ≡ Image) × IsRefusedAs current t.image c)
AnswersFault start mode base capacity t BadSize = IsRefusedBefore t (IsSizeRefused start)
AnswersFault start mode base capacity t RegionTooSmall = IsRefusedBefore t (IsTooSmall start t.image base capacity)
AnswersFault start mode base capacity t (OutOfMemory refusal) = IsRefusedBefore t
    ((start ≡ Image) × (IsOutOfMemory current t.image × IsMapRefused t.image.bytes refusal))
AnswersFault start mode base capacity t ReadFault = IsImageUnread start t ⊎ IsScriptUnread start mode t
AnswersFault start mode base capacity t WriteFault = IsAnswerUnwritten start mode t ⊎ IsImageUnwritten start mode t
AnswersFault start mode base capacity t ScriptTooLong = IsScriptTooLong start mode t

-- The headline, for one session.
pub record RunsSession (start : Start) (mode : Mode) (base capacity : ℕ) (t : SessionIo)
    (result : Result (Unit {0}) SessionFault) : Type 0 where
  pub answers : MatchResult result (λ u. IsDone start mode t) (AnswersFault start mode base capacity t)
  pub left : IsImageLeft start t.image
  -- these two are answered wherever they apply
  pub bad_size : IsSizeRefused start → result ≡ Err BadSize
  pub too_small : IsTooSmall start t.image base capacity → result ≡ Err RegionTooSmall

-- ---- the gaps of a saved image

-- The gaps of the saved image are zero, if the script leaves them so. If the writer of the image failed, it was writing
-- an image of the last directory whose gaps are, and took a proper prefix of it.
pub record LeavesZeros (start : Start) (mode : Mode) (t : SessionIo) (result : Result (Unit {0}) SessionFault)
    : Type 0 where
  pub done : result ≡ Ok tt → mode ≡ Write → (from : Directory) × StartsFrom start t.image from
      × KeepsZeros start mode t.image from t.script.bytes t.saved.bytes
  pub cut : t.saved.failed ≡ true → (from : Directory) × StartsFrom start t.image from × (image : List ℕ)
      × DenotesCurrent image (run (whole_language current) mode from t.script.bytes).1
      × KeepsZeros start mode t.image from t.script.bytes image
      × IsProperPrefix t.saved.bytes image

-- ---- the ends that the readers met

-- the reader of the image met its end in this call, once, if the image has ended; a fresh segment reads nothing
abbrev pub MeetsImageEnd : Start → ReaderHistory → ReaderHistory → Type 0
MeetsImageEnd (Fresh size) old new = new ≡ old
MeetsImageEnd Image old new = MeetsEndOnce old new

-- the same for the reader of the script, which is not read if the session ends before its script
abbrev pub MeetsScriptEnd : {A : Type 0} → Result A SessionFault → ReaderHistory → ReaderHistory → Type 0
MeetsScriptEnd (Ok x) old new = MeetsEndOnce old new
MeetsScriptEnd (Err (Refused c)) old new = new ≡ old
MeetsScriptEnd (Err BadSize) old new = new ≡ old
MeetsScriptEnd (Err RegionTooSmall) old new = new ≡ old
MeetsScriptEnd (Err (OutOfMemory refusal)) old new = new ≡ old
MeetsScriptEnd (Err ReadFault) old new = (new ≡ old) ⊎ MeetsEndOnce old new
MeetsScriptEnd (Err WriteFault) old new = MeetsEndOnce old new
MeetsScriptEnd (Err ScriptTooLong) old new = MeetsEndOnce old new
