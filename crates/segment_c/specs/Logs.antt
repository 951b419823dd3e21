-- What the calls for the bytes of a log write and answer.
use Rattle.std.specs.Prelude.{◌≡◌, ◌≢◌, ◌≤◌, ◌↔◌, ℕ, List, Bool, if◌then◌else◌}
use Rattle.segment_log.specs.Crashes.{with_log}
use Rattle.segment_log.specs.LogKinds.{HasRecord, IsOurs}
use Rattle.segment_log.specs.Records.{open_gate, shut_gate}
use Rattle.segment_log.specs.Recoveries.{RecoversTo}
use Rattle.segment_log.specs.Tags.{AreTogether}
use Rattle.segment_c.specs.Images.{CopiesOut}

-- a gate, open or shut
abbrev pub gate_of : Bool → List ℕ
gate_of is_open = if is_open then open_gate else shut_gate

-- the bytes stand at the front of a buffer, if it has room for them, unless no memory was there to make them
pub record WritesOut (bytes old new : List ℕ) (code : ℕ) : Type 0 where
  pub written : code ≢ 26 → CopiesOut bytes old new code
  pub unchanged_on_error : 1 ≤ code → new ≡ old

-- What a file stands for with its log is in the buffer. Its length, where the records of the log end, and both
-- fingerprints are told. A log of another file is refused.
pub record OpensWithLog (file log new : List ℕ) (code size last base after : ℕ) : Type 0 where
  pub made : code ≢ 54 → (code ≡ 0) × RecoversTo file log new size last base after
  pub cause : code ≡ 54 → AreTogether (with_log file log) → ⊥

-- What a file under the name of a log is: 0 for one that the library did not make, 2 for a log whose first record is
-- marked and whole, 1 for every other log.
pub record TellsKindAsCode (head : List ℕ) (len code : ℕ) : Type 0 where
  pub foreign : (code ≡ 0) ↔ (IsOurs head len → ⊥)
  pub empty : (code ≡ 1) ↔ (IsOurs head len × (HasRecord head len → ⊥))
  pub records : (code ≡ 2) ↔ (IsOurs head len × HasRecord head len)
