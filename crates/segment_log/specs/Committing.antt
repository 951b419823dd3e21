-- The calls to a disk for a commit, an opening and a checkpoint, and what a crash leaves at each moment.
use Rattle.std.specs.Prelude.{◌≡◌, ◌⊎◌, ◌<◌, ◌≤◌, ◌&&◌, ◌^◌, ℕ, Bool, false, List, [], ◌∷◌, length}
use Rattle.std.specs.Prelude.{take}
use Rattle.std.specs.Prelude.{Result, Err, IfErr, IfOk, OnOk, is_ok}
use Rattle.segment_log.specs.Crashes.{LoggedFile}
use Rattle.segment_log.specs.Records.{IsAjar, IsEndOfLog}
use Rattle.segment_log.specs.Edits.{stands_for}
use Rattle.segment_log.specs.Events.{LogEvent, all_done, leaves_after, seen_in_the_end}
use Rattle.segment_log.specs.Laws.{through_events}
use Rattle.segment_log.specs.Openings.{IsReady, IsPayloadFor, EndsReady}
use Rattle.segment_log.specs.Tags.{AreTogether, IsMidCommit, KeepsImage}
use Rattle.segment_log.specs.declared.committing.CommitError.{CommitError}
use Rattle.segment_log.specs.declared.committing.CommitError.TheVariants.{OutOfMemory, TooLong, WriteFault}
use Rattle.segment_log.specs.declared.log_disk.LogFault.{LogFault}

-- The disk got exactly these calls, in this order, and they led from the old state to the new one, each by a step.
abbrev pub AsksFor : {D : Type 0} → (D → LogEvent → D → Type 0) → D → List LogEvent → D → Type 0
AsksFor step old [] new = new ≡ old
AsksFor {D} step old (e ∷ es) new = (next : D) × step old e next × AsksFor step next es new

-- the call writes bytes to the log at an offset, then syncs the log; the result is Ok exactly if both succeed
pub record WritesThrough {D : Type 0} (step : D → LogEvent → D → Type 0) (old new : D) (at : ℕ) (bytes : List ℕ)
    (result : Result (Unit {0}) LogFault) : Type 0 where
  pub written : Bool
  pub synced : Bool
  pub asked : AsksFor step old (through_events at bytes written synced) new
  pub answer : is_ok result ≡ (written && synced)

-- If a file and its log are on the disk before these calls, a crash at any moment of the calls leaves a file and a log
-- with the property P.
abbrev pub CrashLeaves : LoggedFile → List LogEvent → (LoggedFile → Type 0) → Type 0
CrashLeaves files events P = (k : ℕ) (c : LoggedFile) → leaves_after files (take k events) c → P c

-- why a call is refused that takes no payload: memory, before the first call to the disk, or a call that failed
abbrev pub HasCause : CommitError → List LogEvent → Type 0
HasCause OutOfMemory events = events ≡ []
HasCause TooLong events = ⊥
HasCause WriteFault events = all_done events ≡ false

-- The call adds a record. A crash at any moment leaves the last image or the new one, with its own log; after Ok each
-- crash leaves the new one, and the log can take another record.
pub record CommitsRecord {D : Type 0} (step : D → LogEvent → D → Type 0) (old new : D) (end : ℕ) (payload : List ℕ)
    (result : Result ℕ CommitError) : Type 0 where
  pub events : List LogEvent
  pub asked : AsksFor step old events new
  pub crash : (files : LoggedFile) (last image : List ℕ) → IsReady files end last
      → IsPayloadFor files payload last image → CrashLeaves files events (IsMidCommit last image)
  pub on_ok : IfOk result (λ now. (files : LoggedFile) (last image : List ℕ) → IsReady files end last
      → IsPayloadFor files payload last image → EndsReady files events now image)
  -- the file itself is not written
  pub base : (files : LoggedFile) → (seen_in_the_end files events).base ≡ files.base
  -- a commit that returns OutOfMemory or TooLong makes no call to the disk
  pub refused : (result ≡ Err OutOfMemory) ⊎ (result ≡ Err TooLong) → events ≡ []
  pub too_long : result ≡ Err TooLong → (2 ^ 40 ≤ end) ⊎ (2 ^ 40 ≤ length payload)
  -- a commit that returns WriteFault made a call that failed
  pub fault : result ≡ Err WriteFault → all_done events ≡ false

-- The call shuts the gate at the end of a log. A crash at any moment leaves the same image, with its own log; after Ok
-- the log can take a record.
pub record ShutsGate {D : Type 0} (step : D → LogEvent → D → Type 0) (old new : D) (end : ℕ)
    (result : Result (Unit {0}) CommitError) : Type 0 where
  pub events : List LogEvent
  pub asked : AsksFor step old events new
  pub crash : (files : LoggedFile) → IsEndOfLog 4096 files.log end → IsAjar 4096 files.log end → AreTogether files
      → CrashLeaves files events (KeepsImage (stands_for files))
  pub on_ok : OnOk result ((files : LoggedFile) → IsEndOfLog 4096 files.log end → AreTogether files
      → EndsReady files events end (stands_for files))
  pub cause : IfErr result (λ why. HasCause why events)

-- The call replaces the file by the image, and empties the log. A crash at any moment leaves the image, with its own
-- log; after Ok the file has the image, and the log can take a record.
pub record MakesCheckpoint {D : Type 0} (step : D → LogEvent → D → Type 0) (old new : D) (image : List ℕ)
    (result : Result (Unit {0}) CommitError) : Type 0 where
  pub events : List LogEvent
  pub asked : AsksFor step old events new
  pub crash : (files : LoggedFile) (end : ℕ) → IsReady files end image → 0 < end
      → CrashLeaves files events (KeepsImage image)
  pub on_ok : OnOk result ((files : LoggedFile) (end : ℕ) → IsReady files end image → 0 < end
      → EndsReady files events 0 image)
  pub cause : IfErr result (λ why. HasCause why events)
