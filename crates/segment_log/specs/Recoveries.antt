-- What is made of a copy of a file in a buffer, where its log is applied in place.
use Rattle.std.specs.Prelude.{◌≡◌, ℕ, List, length}
use Rattle.segment_log.specs.Crashes.{with_log}
use Rattle.segment_log.specs.Edits.{stands_for, Holds}
use Rattle.segment_log.specs.Fingerprints.{fingerprint}
use Rattle.segment_log.specs.Records.{IsEndOfLog}
use Rattle.segment_log.specs.Tags.{AreTogether}

-- the buffer has the image that file and log stand for, which belong together
pub record RecoversTo (file log new : List ℕ) (len end base after : ℕ) : Type 0 where
  pub image : Holds new (stands_for (with_log file log))
  pub len_is : len ≡ length (stands_for (with_log file log))
  pub end_is : IsEndOfLog 4096 log end
  pub base_is : base ≡ fingerprint file
  pub after_is : after ≡ fingerprint (stands_for (with_log file log))
  pub tags : AreTogether (with_log file log)

-- the log belongs to another file, and the buffer does not change
pub record RefusesForeign (file log old new : List ℕ) : Type 0 where
  pub cause : AreTogether (with_log file log) → ⊥
  pub unchanged : new ≡ old
