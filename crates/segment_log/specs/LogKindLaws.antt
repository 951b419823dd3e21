-- What holds of the kinds of logs.
use Rattle.std.specs.Prelude.{◌≡◌, ◌≢◌, ◌⊎◌, ◌↔◌, ◌<◌, ◌≤◌, ◌^◌, ℕ, List, [], ◌++◌, length, take, drop, get_or, None}
use Rattle.segment_log.specs.Crashes.{LoggedFile, TornWrite}
use Rattle.segment_log.specs.Events.{leaves_after, seen_in_the_end}
use Rattle.segment_log.specs.Laws.{CommitOutcome, Committed, commit_events}
use Rattle.segment_log.specs.Records.{next_at, open_gate, record_body, recovered, shut_gate, zeros, EndsShut}
use Rattle.segment_log.specs.LogKinds.{HasMagic, HasRecord, IsOurs}
use Rattle.segment_log.specs.declared.log_kinds.LogKind.{LogKind}
use Rattle.segment_log.specs.declared.log_kinds.LogKind.TheVariants.{Foreign, Empty, Records}

-- a file of these bytes is a log of this kind
abbrev pub IsKind : LogKind → List ℕ → Type 0
IsKind Foreign log = IsOurs (take 4144 log) (length log) → ⊥
IsKind Empty log =
    IsOurs (take 4144 log) (length log) × (HasRecord (take 4144 log) (length log) → ⊥)
IsKind Records log = IsOurs (take 4144 log) (length log) × HasRecord (take 4144 log) (length log)

-- the kind of a log says whether a reader finds a record
pub record TellsRecords (log : List ℕ) : Type 0 where
  pub next : IsKind Records log ↔ (IsOurs (take 4144 log) (length log) × (next_at 4096 log ≢ None))
  pub some : IsKind Records log → recovered log ≢ []
  pub none : IsKind Empty log → recovered log ≡ []

-- The kind of each file says whether a reader finds a record.
abbrev pub KindsTellRecords : Type 0
KindsTellRecords = (log : List ℕ) → TellsRecords log

-- the file does not begin with a gate: it is too short, it is neither open nor shut, or it has no name and bytes that
-- are not 0
abbrev pub BeginsWithNoGate : List ℕ → Type 0
BeginsWithNoGate log =
    (length log < 4096) ⊎ ((1 < get_or log 0 0)
    ⊎ ((HasMagic log → ⊥) × (take 4095 (drop 1 log) ≢ zeros 4095)))

-- A file that does not begin with a gate, as an empty file, belongs to somebody else.
abbrev pub NoGateIsForeign : Type 0
NoGateIsForeign = (log : List ℕ) → BeginsWithNoGate log → IsKind Foreign log

-- a log as this crate makes it: its first gate has the name of the format
pub record IsNamedLog (log : List ℕ) : Type 0 where
  pub gate : 4096 ≤ length log
  pub first : get_or log 0 0 ≤ 1
  pub name : HasMagic log

-- The shut gate begins a log without a record, whatever follows; the open gate and a whole record begin one with
-- records.
pub record BeginLogs (rest : List ℕ) : Type 0 where
  pub shut : IsKind Empty (shut_gate ++ rest)
  pub shut_name : IsNamedLog (shut_gate ++ rest)
  pub marked : (payload : List ℕ) → length payload < 256 ^ 8 → IsKind Records
      (open_gate ++ (record_body payload ++ rest))
  pub open_name : IsNamedLog (open_gate ++ rest)

-- The gates of this crate begin its logs: a new log is one shut gate, and has no record.
abbrev pub GatesBeginLogs : Type 0
GatesBeginLogs = ((rest : List ℕ) → BeginLogs rest) × IsKind Empty shut_gate

-- Each log with the name is ours.
abbrev pub NamedLogsAreOurs : Type 0
NamedLogsAreOurs = (log : List ℕ) → IsNamedLog log → IsOurs (take 4144 log) (length log)

-- A log keeps its name after a write behind its first gate that a crash cuts short, as that of a later gate.
abbrev pub WritesBehindKeepName : Type 0
WritesBehindKeepName = (at n : ℕ) (old new : List ℕ) → 4096 ≤ at → TornWrite at n old new → IsNamedLog old
    → IsNamedLog new

-- A log keeps its name at each moment of a commit at which its first gate is not written.
abbrev pub CommitKeepsName : Type 0
CommitKeepsName = (files : LoggedFile) (end : ℕ) (payload : List ℕ) (how : CommitOutcome)
    → EndsShut 4096 files.log end → IsNamedLog files.log
    → (k : ℕ) (c : LoggedFile) → leaves_after files (take k (commit_events end payload how)) c
    → (end ≡ 0 → k ≤ 2) → IsNamedLog c.log

-- each byte of the first gate is that of one of two logs
abbrev pub HasGateOfEither : List ℕ → List ℕ → List ℕ → Type 0
HasGateOfEither a b log =
    (k : ℕ) → k < 4096 → (get_or log k 0 ≡ get_or a k 0) ⊎ (get_or log k 0 ≡ get_or b k 0)

-- A log keeps its name while its first gate is written, if each byte of the gate is the old one or the new one.
abbrev pub GateWritesKeepName : Type 0
GateWritesKeepName = (old new log : List ℕ) → IsNamedLog old → IsNamedLog new → 4096 ≤ length log
    → HasGateOfEither old new log → IsNamedLog log

-- A log with the name has records after a commit.
abbrev pub CommittedHasRecords : Type 0
CommittedHasRecords = (files : LoggedFile) (end : ℕ) (payload : List ℕ) → EndsShut 4096 files.log end
    → IsNamedLog files.log → length payload < 256 ^ 8
    → IsKind Records (seen_in_the_end files (commit_events end payload Committed)).log
