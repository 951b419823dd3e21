-- The image of the last commit, which is kept in memory, and the file and the log that stand for it.
use Rattle.std.specs.Prelude.{◌≡◌, ◌⊎◌, ◌≤◌, ◌^◌, ℕ, false, List, [], length, Result, Err, IfErr, OnOk}
use Rattle.segment_log.specs.Crashes.{LoggedFile, Only}
use Rattle.segment_log.specs.Committing.{AsksFor, CrashLeaves, HasCause}
use Rattle.segment_log.specs.Events.{LogEvent, all_done, seen_in_the_end, leaves_after}
use Rattle.segment_log.specs.Fingerprints.{fingerprint}
use Rattle.segment_log.specs.Openings.{IsReady}
use Rattle.segment_log.specs.Tags.{IsMidCommit, KeepsImage}
use Rattle.segment_log.specs.declared.committed_image.CommittedImage.{CommittedImage}
use Rattle.segment_log.specs.declared.committing.CommitError.{CommitError}
use Rattle.segment_log.specs.declared.committing.CommitError.TheVariants.{OutOfMemory, TooLong, WriteFault}

-- the file, with its own log, stands for the image that is kept, and the log can take a record where it is to be
pub record IsCommitted (files : LoggedFile) (kept : CommittedImage) : Type 0 where
  pub ready : IsReady files kept.end kept.image.items
  pub base : fingerprint files.base ≡ kept.base

-- the calls are done: each crash from then on leaves a file and a log that stand for the image that is kept
pub record EndsCommitted (files : LoggedFile) (events : List LogEvent) (kept : CommittedImage) : Type 0 where
  pub committed : IsCommitted (seen_in_the_end files events) kept
  pub lasts : Only (seen_in_the_end files events) (leaves_after files events)

-- the calls of a commit are done, and the image is kept
pub record KeepsCommitted (old new : CommittedImage) (events : List LogEvent) (image : List ℕ) : Type 0 where
  pub contents : new.image.items ≡ image
  pub lasts : (files : LoggedFile) → IsCommitted files old → EndsCommitted files events new

-- `CommittedImage::commit`: A crash at any moment leaves the last image or the new one, with its own log; after Ok each
-- crash leaves the new one. Nothing is asked if nothing changed, or if the call is refused.
pub record CommitsImage {D : Type 0} (step : D → LogEvent → D → Type 0) (old new : D) (kept now : CommittedImage)
    (image : List ℕ) (result : Result (Unit {0}) CommitError) : Type 0 where
  pub events : List LogEvent
  pub asked : AsksFor step old events new
  pub crash : (files : LoggedFile) → IsCommitted files kept
      → CrashLeaves files events (IsMidCommit kept.image.items image)
  pub on_ok : OnOk result (KeepsCommitted kept now events image)
  pub on_error : IfErr result (λ why. now ≡ kept)
  pub noop : kept.image.items ≡ image → events ≡ []
  pub refused : (result ≡ Err OutOfMemory) ⊎ (result ≡ Err TooLong) → events ≡ []
  pub too_long : result ≡ Err TooLong → (2 ^ 40 ≤ kept.end) ⊎ (2 ^ 35 ≤ length image)
  pub fault : result ≡ Err WriteFault → all_done events ≡ false

-- the calls of a checkpoint are done: the file has the image that is kept, and its log no record
pub record EndsInFile (files : LoggedFile) (events : List LogEvent) (kept : CommittedImage) : Type 0 where
  pub ends : EndsCommitted files events kept
  pub base : (seen_in_the_end files events).base ≡ kept.image.items

-- `CommittedImage::checkpoint`: A crash at any moment leaves the image, with its own log; after Ok the file has it.
pub record PlacesCommitted {D : Type 0} (step : D → LogEvent → D → Type 0) (old new : D) (kept now : CommittedImage)
    (result : Result (Unit {0}) CommitError) : Type 0 where
  pub events : List LogEvent
  pub asked : AsksFor step old events new
  pub crash : (files : LoggedFile) → IsCommitted files kept → CrashLeaves files events (KeepsImage kept.image.items)
  pub on_ok : OnOk result ((files : LoggedFile) → IsCommitted files kept → EndsInFile files events now)
  pub unchanged : now.image ≡ kept.image
  pub on_error : IfErr result (λ why. now ≡ kept)
  pub cause : IfErr result (λ why. HasCause why events)
