-- The text that a call writes, if that depends on the state of a machine or a segment.
use Rattle.std.specs.Prelude.{◌≡◌, ◌+◌, List, ℕ, Result}
use Rattle.raw_region.specs.{Answers.failures_in, Device.WriterHistory, Device.Writes}

-- the call writes the text for each place at which it stands; after an error, one more write has failed
pub record WritesFor {P A E : Type 0} (old new : WriterHistory) (result : Result A E) (Stands : P
    → Type 0) (owed : P → List ℕ) : Type 0 where
  pub writes : (place : P) → Stands place → Writes old new result (owed place)
  pub counted : new.failures ≡ old.failures + failures_in result
