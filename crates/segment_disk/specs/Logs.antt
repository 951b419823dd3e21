-- The image of a file with its log, as a disk returns it.
use Rattle.std.specs.Prelude.{◌≡◌, ℕ, List, Option, Some, None, Result, MatchResult}
use Rattle.segment_log.specs.CommittedImages.{IsCommitted}
use Rattle.segment_log.specs.Crashes.{LoggedFile, with_log}
use Rattle.segment_log.specs.Edits.{stands_for}
use Rattle.segment_log.specs.Fingerprints.{fingerprint}
use Rattle.segment_log.specs.Records.{IsEndOfLog}
use Rattle.segment_log.specs.Tags.{AreTogether}
use Rattle.segment_log.specs.declared.committed_image.CommittedImage.{CommittedImage}
use Rattle.segment_log.specs.declared.recovery.RecoveredImage.{RecoveredImage}
use Rattle.segment_disk.specs.Events.{Event, LogBegun}
use Rattle.segment_disk.specs.declared.presence.FileProblem.{FileProblem}
use Rattle.segment_disk.specs.declared.presence.FileProblem.TheVariants.{ForeignLog}

-- the log is that of the file, and this is the image that both stand for, with what further commits need
pub record Recovers (base log : List ℕ) (made : RecoveredImage) : Type 0 where
  pub together : AreTogether (with_log base log)
  pub image : made.image.items ≡ stands_for (with_log base log)
  pub end : IsEndOfLog 4096 log made.end
  pub named : made.base ≡ fingerprint base

-- it is refused as that of another file only if it is
abbrev pub RefusesLog : List ℕ → List ℕ → Option FileProblem → Type 0
RefusesLog base log why = why ≡ Some ForeignLog → AreTogether (with_log base log) → ⊥

-- some file and its own log have the kept image, and the log can take the next record at the kept end
pub record StandsCommitted (kept : CommittedImage) : Type 0 where
  pub files : LoggedFile
  pub committed : IsCommitted files kept

-- a log was put beside the file of this path, and both stand for the image that is kept
pub record BeginsLogOk {D : Type 0} (step : D → Event → D → Type 0) (old new : D) (path : List ℕ)
    (kept : CommittedImage) : Type 0 where
  pub files : LoggedFile
  pub asked : step old (LogBegun path (Some files)) new
  pub committed : IsCommitted files kept

-- a log was put beside the file of this path, or could not be
abbrev pub BeginsLog : {D E : Type 0} → (D → Event → D → Type 0) → D → D → List ℕ → Result CommittedImage E → Type 0
BeginsLog step old new path result = MatchResult result (BeginsLogOk step old new path) (λ why.
    step old (LogBegun path None) new)
