-- The bytes that readers returned and writers accepted: since the start, and in one call.
use Rattle.std.specs.Prelude.{◌≡◌, ◌<◌, ◌≤◌, ℕ, ◌+◌, Bool, List, ◌++◌, length, drop, nat_lt, Result, OnOk, OnErr}
use Rattle.raw_region.specs.Answers.{AppendsProperPrefix, failures_in}

-- ---- the history of a device

-- the bytes that a reader returned; whether its last read into a non-empty slice met the end, and the number of reads
-- that did; and the number of reads that failed
pub record ReaderHistory : Type 0 where
  pub bytes : List ℕ
  pub ended : Bool
  pub ends : ℕ
  pub failures : ℕ

-- the bytes that a writer accepted, and the number of writes that failed
pub record WriterHistory : Type 0 where
  pub bytes : List ℕ
  pub failures : ℕ

-- ---- the work of a device in one call

-- the bytes that a reader returned in a call, whether its last read so far met the end, and whether a read failed
pub record ReadDelta : Type 0 where
  pub bytes : List ℕ
  pub ended : Bool
  pub failed : Bool

-- the bytes that a writer accepted in a call, and whether a write failed
pub record WriteDelta : Type 0 where
  pub bytes : List ℕ
  pub failed : Bool

-- the work of a reader in one call, from the histories before and after it
abbrev pub read_delta : ReaderHistory → ReaderHistory → ReadDelta
read_delta old new =
    record { bytes = drop (length old.bytes) new.bytes; ended = new.ended; failed = nat_lt old.failures new.failures }

-- the work of a writer in one call, from the histories before and after it
abbrev pub write_delta : WriterHistory → WriterHistory → WriteDelta
write_delta old new = record { bytes = drop (length old.bytes) new.bytes; failed = nat_lt old.failures new.failures }

-- A call writes a text. If it returns Ok, it has written all of the text. If it returns an error, it has written a
-- front of the text that is not all of it, and one more write has failed.
pub record Writes {A E : Type 0} (old new : WriterHistory) (result : Result A E) (text : List ℕ) : Type 0 where
  pub ok : OnOk result (new.bytes ≡ old.bytes ++ text)
  pub err : OnErr result (AppendsProperPrefix old.bytes new.bytes text)
  pub counted : new.failures ≡ old.failures + failures_in result

-- the new bytes are the old bytes, followed by more
abbrev pub AppendsBytes : List ℕ → List ℕ → Type 0
AppendsBytes old new = new ≡ old ++ drop (length old) new

-- A call reads: the bytes that it read follow the earlier bytes, and this many of its reads failed.
pub record ReadsSource (old new : ReaderHistory) (failed : ℕ) : Type 0 where
  pub grows : AppendsBytes old.bytes new.bytes
  pub counted : new.failures ≡ old.failures + failed

-- at most one read of the call met the end
abbrev pub EndsAtMostOnce : ReaderHistory → ReaderHistory → Type 0
EndsAtMostOnce old new = new.ends ≤ old.ends + 1

-- `prefix` is a proper prefix of `all`
abbrev pub IsProperPrefix : List ℕ → List ℕ → Type 0
IsProperPrefix prefix all = (rest : List ℕ) × (all ≡ prefix ++ rest) × (0 < length rest)
