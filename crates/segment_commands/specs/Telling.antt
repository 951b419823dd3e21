-- What a command says at its end.
use Rattle.std.specs.Prelude.{◌≡◌, ◌⊎◌, ℕ, ◌+◌, Bool, true, false, List, ◌++◌, Result, MatchResult}
use Rattle.raw_region.specs.Answers.{AppendsProperPrefix}
use Rattle.raw_region.specs.Device.{WriterHistory}
use Rattle.segment_disk.specs.Events.{IsFlushed}

-- the output took all of the text and was flushed; ok says whether all went out
pub record FlushesText {O : Type 0} (history : O → WriterHistory) (flushes : O → Bool → O
    → Type 0) (old new : O) (text : List ℕ) (ok : Bool) : Type 0 where
  pub bytes : (history new).bytes ≡ (history old).bytes ++ text
  pub failures : (history new).failures ≡ (history old).failures
  pub flushed : IsFlushed history flushes new ok

-- the output failed, and took not all of the text
pub record FailsOutput {O : Type 0} (history : O → WriterHistory) (old new : O) (text : List ℕ) : Type 0 where
  pub part : AppendsProperPrefix (history old).bytes (history new).bytes text
  pub failed : (history new).failures ≡ (history old).failures + 1

-- all of the text went out if the answer is Ok, and otherwise the output failed
abbrev pub WritesAndFlushes : {O E : Type 0} → (O → WriterHistory) → (O → Bool → O → Type 0) → O → O → List ℕ
    → Result (Unit {0}) E → Type 0
WritesAndFlushes history flushes old new text result =
    MatchResult result (λ u. FlushesText history flushes old new text true)
    (λ e. FailsOutput history old new text ⊎ FlushesText history flushes old new text false)
