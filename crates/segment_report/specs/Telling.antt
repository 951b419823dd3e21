-- The text that a call writes about a segment.
use Rattle.std.specs.Prelude.{◌≡◌, ◌+◌, List, ℕ, Result}
use Rattle.raw_region.specs.Answers.{failures_in}
use Rattle.raw_region.specs.Device.{WriterHistory, Writes}
use Rattle.segment_manager.specs.Directory.{Directory}
use Rattle.segment_manager.specs.State.{SegmentState, DenotesCurrent}

-- the text of each directory that the bytes denote, all of it or at a fault a proper prefix; and a failure is counted
-- once
pub record WritesReport {A E : Type 0} (s : SegmentState) (old new : WriterHistory) (result : Result A E)
    (text : Directory → List ℕ) : Type 0 where
  pub writes : (d : Directory) → DenotesCurrent s.cut.bytes d → Writes old new result (text d)
  pub counted : new.failures ≡ old.failures + failures_in result
